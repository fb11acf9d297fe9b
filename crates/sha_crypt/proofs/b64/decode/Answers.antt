use Rattle.std.proofs.Common.{rules, sym, ◌∙◌}
use Rattle.sha_crypt.proofs.HashFields.{decoded, not_decoded}
use Rattle.sha_crypt.proofs.b64.decode.Goals as goal

pub returns-in-Some : goal.returns-in-Some
returns-in-Some g c = record {
  found = decoded g.row.N c.args.places.now c.args.back.now c.args.source.now c.in-Some.bytes _ c.told-places
      c.told-back (search rules) c.requires.places c.requires.undoes
      (sym c.field_bytes.ensures.bytes ∙ c.in-Some.is) c.in_order.ensures.value;
}

pub returns-in-None : goal.returns-in-None
returns-in-None g c = record {
  found = λ digest is.
      not_decoded g.row.N c.args.places.now c.args.source.now digest c.told-places
      (sym c.field_bytes.ensures.bytes ∙ c.in-None.is) is;
}
