use Rattle.std.proofs.Common.{◌≡◌, ℕ, arith, ◌∙◌, ap, length, slice_index}
use Rattle.std.specs.Prelude.{replicate}
use Rattle.std.proofs.lemmas.List.{length-map, length-replicate}
use Rattle.sha_crypt.proofs.HashFields.{encoded}
use Rattle.sha_crypt.proofs.b64.encode.Goals as goal

pub returns : goal.returns
returns g c =
    let at : ℕ → ℕ = λ k. slice_index c.args.digest.now k in
    let count : length c.in_order-bytes.result ≡ g.row.N =
    ap length c.in_order-bytes.ensures.value ∙ length-map c.args.places.now at ∙ c.told-places in
    let room : length (replicate {A = ℕ} g.row.M 0) ≡ g.row.M = length-replicate g.row.M 0 in
    record {
      field = encoded c.args.places.now c.args.digest.now c.in_order-bytes.result _ _ c.encode_into.result
          c.in_order-bytes.ensures.value c.in_order-bytes.ensures.small
          (omega (arith, c.requires.short)) (omega (arith, c.requires.len)) c.encode_into.ensures.refused
          c.encode_into.ensures.written;
    }
