-- The layout of service data as a grammar: which bytes are an object, a content, a run. It says nothing of how they are read. Assumes nothing.
use Rattle.std.specs.Prelude.{◌≡◌, ℕ, ◌+◌, ◌*◌, ◌<◌, true, false, ◌⊎◌, List, [], ◌∷◌, ◌++◌, length, replicate}
use Rattle.layout.specs.Crc.{crc16}
use Rattle.service.specs.Lengths.{LengthIs}
use Rattle.service.specs.Objects.{Tag, one, two, goes_on, Fields}

-- the bytes of a tag: one that is not 00 and after which none follows, or two of which the second is below 80
pub record TwoBytes (tag : ℕ) (bytes : List ℕ) : Type 0 where
  pub first : ℕ
  pub second : ℕ
  pub follows : goes_on first ≡ true
  pub low : second < 0x80
  pub value : tag ≡ first * 256 + second
  pub all : bytes ≡ first ∷ second ∷ []

pub record OneByte (tag : ℕ) (bytes : List ℕ) : Type 0 where
  pub used : tag ≡ 0 → ⊥
  pub alone : goes_on tag ≡ false
  pub all : bytes ≡ tag ∷ []

abbrev pub TagIs : Tag → List ℕ → Type 0
TagIs (one t) bytes = OneByte t bytes
TagIs (two t) bytes = TwoBytes t bytes

-- the bytes of an object: its tag, the length of what follows, its format byte, its data
pub record ObjectIs (o : Fields) (bytes : List ℕ) : Type 0 where
  pub tag : List ℕ
  pub size : List ℕ
  pub tagged : TagIs o.tag tag
  pub sized : LengthIs (length o.bytes + 1) size
  pub all : bytes ≡ tag ++ (size ++ (o.format ∷ o.bytes))

-- some objects, one after another
pub record Joined (Front Rest : List ℕ → Type 0) (bytes : List ℕ) : Type 0 where
  pub front : List ℕ
  pub rest : List ℕ
  pub first : Front front
  pub others : Rest rest
  pub all : bytes ≡ front ++ rest

-- the bytes of a content with these objects
abbrev pub ContentIs : List Fields → List ℕ → Type 0
ContentIs [] bytes = bytes ≡ []
ContentIs (o ∷ os) bytes = Joined (ObjectIs o) (ContentIs os) bytes

-- what the checksum of service data covers: the outer tag, the length, the content, and the mark C0 02
abbrev pub covered : ℕ → List ℕ → List ℕ → List ℕ
covered tag size content = tag ∷ (size ++ (content ++ (0xC0 ∷ 0x02 ∷ [])))

-- a run that holds this outer tag and content: then the checksum, high byte first, and 00 to the end
pub record RunHolds (tag : ℕ) (size content run : List ℕ) : Type 0 where
  pub outer : (tag ≡ 0xE0) ⊎ (tag ≡ 0x65)
  pub sized : LengthIs (length content) size
  pub high : ℕ
  pub low : ℕ
  pub sum : high * 256 + low ≡ crc16 (covered tag size content)
  pub padding : ℕ
  pub all : run ≡ covered tag size content ++ (high ∷ low ∷ replicate padding 0)
