use Rattle.std.proofs.Common.{inl, inr}
use Rattle.md5_crypt.proofs.Costly.{costly}
use Rattle.md5_crypt.proofs.run.check_with_scrypt.Goals as goal

pub returns : goal.returns
returns c = record {
  verdict = elim c.check_legacy.ensures.verdict [
    | inl is ↦ inl is
    | inr lack ↦ inr
        (lack.0, costly c.args.password.now c.args.stored.now lack.1)
  ];
}
