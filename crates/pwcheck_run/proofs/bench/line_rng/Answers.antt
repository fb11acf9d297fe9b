use Rattle.pwcheck_run.proofs.bench.line_rng.Goals as goal

pub returns : goal.returns
returns c = rw (
  c.copy_from_slice.ensures.after,
  c.copy_from_slice-2.ensures.after,
  c.to_le_bytes.ensures,
  c.to_le_bytes-2.ensures,
) at c.from_seed.ensures
