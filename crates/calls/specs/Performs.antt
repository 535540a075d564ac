-- What a call made on a station answers as text: there is an answer that the station's call may give, and the text is that answer's. Assumes nothing.
use Rattle.std.specs.Prelude.{◌≡◌, ℕ, List, replicate, IfOk, string_bytes, Result, String}
use Rattle.std.specs.declared.alloc.AllocError.{AllocError}
use Rattle.std.specs.declared.alloc.Global.{Global}
use Rattle.layout.specs.Refusals.{Answer}
use Rattle.card.specs.Answers.{LaySays}
use Rattle.card.specs.declared.interface.Card.{Ghosts as CardKind}
use Rattle.card.specs.declared.interface.Laid.{Laid}
use Rattle.directory.specs.Looks.{Taken}
use Rattle.station.specs.Finds.{find_look}
use Rattle.station.specs.Reads.{ReadDone}
use Rattle.station.specs.Stations.{with_card}
use Rattle.station.specs.declared.frame.Reading.{Reading}
use Rattle.station.specs.declared.search.Found.{Found}
use Rattle.station.specs.declared.station.Station.{Station}
use Rattle.calls.specs.Answers.{find_words, lay_words, read_words}
use Rattle.calls.specs.declared.parse.Call.{Call}
use Rattle.calls.specs.declared.parse.Call.TheVariants.{Find, Read, Lay}

-- a text, or no memory for it
abbrev Text : Type 0
Text = Result (String Global) AllocError

module _ {C : Type 0} (kind : CardKind C) where
  pub record FindSaid (number : ℕ) (station later : Station C) (r : Text) : Type 0 where
    pub answer : Answer Found
    pub found : Taken kind (find_look station.profile number) station.card later.card answer
    pub same : later ≡ with_card station later.card
    pub text : IfOk r (λ s. string_bytes s ≡ find_words answer)

  pub record ReadSaid (number : ℕ) (before : List ℕ) (station later : Station C) (r : Text) : Type 0 where
    pub answer : Answer Reading
    pub after : List ℕ
    pub read : ReadDone kind station.profile number station.card later.card before after answer
    pub same : later ≡ with_card station later.card
    pub text : IfOk r (λ s. string_bytes s ≡ read_words answer after)

  pub record LaySaid (station later : Station C) (r : Text) : Type 0 where
    pub answer : Laid
    pub laid : LaySays (kind.blocks station.card) (kind.blocks later.card) (kind.present later.card) answer
    pub same : later ≡ with_card station later.card
    pub text : IfOk r (λ s. string_bytes s ≡ lay_words answer)

  -- of each call; a read's buffer is filled with EE
  abbrev pub Said : Call → Station C → Station C → Text → Type 0
  Said (Find number) station later r = FindSaid number station later r
  Said (Read number room) station later r = ReadSaid number (replicate room 0xEE) station later r
  Said Lay station later r = LaySaid station later r
