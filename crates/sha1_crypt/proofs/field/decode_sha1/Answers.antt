use Rattle.std.proofs.Common.{sym, ◌∙◌, arith}
use Rattle.sha1_crypt.proofs.Fields.{answer_found, answer_none, field_length}
use Rattle.sha1_crypt.proofs.field.decode_sha1.Goals as goal

pub returns-then-source-ne28 : goal.returns-then-source-ne28
returns-then-source-ne28 c = record {
  found = λ digest is. omega (arith, field_length c.args.source.now digest is, c.if-source-ne28.true);
}

pub returns-in-Some : goal.returns-in-Some
returns-in-Some c = record {
  found = answer_found c.args.source.now c.in-Some.bytes _ (sym c.counted_bytes.ensures.bytes ∙ c.in-Some.is)
      c.placed_digest.ensures.digest;
}

pub returns-in-None : goal.returns-in-None
returns-in-None c = record {
  found = answer_none c.args.source.now (sym c.counted_bytes.ensures.bytes ∙ c.in-None.is);
}
