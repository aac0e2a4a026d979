use Rattle.text.proofs.Sixteens.{written_is}
use Rattle.text.proofs.hexadecimals.hex_text.Goals as goal

pub returns : goal.returns
returns c = rw (written_is c.args.bytes.now (λ i. (c.type_inv.bytes i).fits)) at c.encode_upper.ensures
