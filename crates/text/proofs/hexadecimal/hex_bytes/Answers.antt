use Rattle.std.proofs.Common.{rules, arith}
use Rattle.text.proofs.Written.{encode_upper_is}
use Rattle.text.proofs.hexadecimal.hex_bytes.Goals as goal

pub returns : goal.returns
returns c = search (rules, encode_upper_is c.args.bytes.now (λ i. omega (arith, c.type_inv.bytes i)))
