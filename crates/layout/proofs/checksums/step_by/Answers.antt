use Rattle.std.proofs.Common.{◌≡◌, ◌-◌, ◌*◌, ◌%◌, ◌^◌, ◌<◌, sym, ap, ◌∙◌, subst, arith}
use lib.Bits.{bit_xor}
use Rattle.layout.specs.Crc.{round, rounds}
use Rattle.layout.specs.Rounds.{rounds_none, rounds_more, round_lt, added_fits, turn_low, turn_high, eight_turns}
use Rattle.layout.proofs.checksums.step_by.Goals.{then-register-top, else-register-top}
use Rattle.layout.proofs.checksums.step_by.Goals as goal

pub loop-i-init : goal.loop-i-init
loop-i-init c = (
  sym (rounds_none _ _ _),
  added_fits _ _ c.requires.register c.args.state c.args.byte _ c.requires.state (omega arith) c.from.ensures,
)

pub loop-i-preserved : goal.loop-i-preserved
loop-i-preserved c =
    let w = c.args.width in
    let poly = c.args.polynomial in
    let s = c.loop-i.register in
    let turn : c.if-register-top.register ≡ round w poly s = elim c.if-register-top.branch [
      | then-register-top v ↦ v.register-is ∙ turn_low w poly c.requires.register s v.if-register-top.true
      | else-register-top v ↦ v.register-is ∙ turn_high w poly c.requires.register s v.if-register-top.false
    ] in (
      turn ∙ ap (round w poly) c.loop-i.invariant.0 ∙ sym (rounds_more w poly c.loop-i._i _),
      subst (λ x. x < 2 ^ w) (sym turn) (round_lt w poly c.requires.register s c.loop-i.invariant.1),
    )

pub returns : goal.returns
returns c =
    let done : c.loop-i._i ≡ 8 = omega arith in
    let first = bit_xor c.args.state ((c.from.result * 2 ^ (c.args.width - 8)) % 65536) in
    record {
      value =
          c.loop-i.invariant.0
          ∙ ap (λ n. rounds c.args.width c.args.polynomial n first) done
          ∙ eight_turns _ _ c.requires.register c.args.state c.args.byte _ (omega arith) c.from.ensures;
      fits = c.loop-i.invariant.1;
    }
