use Rattle.std.proofs.Common.{◌≡◌, ℕ, ◌+◌, ◌-◌, ◌*◌, ◌/◌, length, drop, replicate, ap, ◌∙◌, sym, arith, refl}
use Rattle.std.proofs.lemmas.List.{length-take-le, length-drop}
use Rattle.base64ct.proofs.Padding.{padding_count, length-encoding, encoding_written}
use Rattle.base64ct.proofs.encode.encode_padded.Goals as goal

pub returns : goal.returns
returns g c =
    let a = g.A.Alphabet.alphabet in
    let n : ℕ = c.args.count in
    let len = length-encoding a c.args.src.now (λ k. omega (arith, c.type_inv.src k)) in
    let same : padding_count a.padded ((4 * length c.args.src.now + 2) / 3) ≡ padding_count a.padded n =
    ap (padding_count a.padded) (sym c.requires.characters) in
    let padding : c.args.padding ≡ padding_count a.padded n =
    omega (arith, len, same, c.requires.characters, c.requires.whole) in
    let width : n + c.args.padding - n ≡ c.args.padding = omega arith in
    let whole = encoding_written a c.args.src.now c.args.dst.now c.encode_unpadded.new.dst c.fill.new.self n _
    c.args.padding _ (λ k. omega (arith, c.type_inv.src k)) c.requires.characters padding width refl
    (c.encode_unpadded.ensures.written ∙ rw (c.encode_unpadded.ensures.len, c.requires.characters) refl)
    (c.fill.ensures.after (λ y h. h)
    ∙ ap (λ (m : ℕ). replicate m 61)
    (length-take-le _ (drop n c.encode_unpadded.new.dst)
    (omega (arith, length-drop n c.encode_unpadded.new.dst)))) in
    whole.1
