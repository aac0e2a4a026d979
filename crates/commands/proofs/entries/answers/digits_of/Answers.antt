use Rattle.std.proofs.Common.{◌≡◌, ℕ, ◌-◌, List, length, take, replicate, IfOk, string_bytes, ap, ◌∙◌, subst}
use Rattle.std.proofs.lemmas.List.{take_at}
use Rattle.text.specs.Hexadecimals.{hex_text_of}
use Rattle.kinds.specs.Formats.{padded}
use Rattle.commands.proofs.entries.answers.digits_of.Goals as goal

-- the bytes in front of the zeros
front : (bs xs : List ℕ) (w n : ℕ) → xs ≡ padded bs → length bs ≡ w → n ≡ w → take n xs ≡ bs
front bs xs w n e l k =
    ap (take n) e ∙ ap (λ j. take j (padded bs)) k ∙ take_at bs (replicate (16 - length bs) 0) w l

pub returns : goal.returns
returns g c =
    let f = g.K.Kind.format in
    subst (λ bs. IfOk c.hex_text.result (λ s. string_bytes s ≡ hex_text_of bs))
    (front (f.encoded c.args.value.now) _ f.width _ c.encode-bytes.ensures (g.met.K.Kind.lawful.long c.args.value.now) (c.WIDTH.ensures ∙ g.met.K.Kind.width_agrees))
    c.hex_text.ensures
