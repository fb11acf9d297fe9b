use Rattle.std.proofs.Common.{ℕ, List, ◌++◌, refl, ap, sym, ◌∙◌}
use Rattle.std.specs.Prelude.{codes}
use Rattle.mcf.specs.Grammar.{mcf}
use Rattle.md5_plain.specs.declared.magic.Magic.TheVariants.{Apr1, Md5}
use Rattle.any_check.specs.Kinds.{md5_kind}
use Rattle.any_check.proofs.Md5Parts.{of_prefix}
use Rattle.any_check.proofs.md5_text.is_plain.Goals as goal

pub returns-in-Some : goal.returns-in-Some
returns-in-Some c = record {
  valid = λ all.
      let found = c.in-Some.ensures.cases in
      let text = of_prefix (codes "$1$") c.args.stored.now c.in-Some.rest.now found.0 found.1 found.2 in
      ap (λ (t : List ℕ). md5_kind (mcf t)) (text ∙ ap (λ l. codes "$1$" ++ l) (sym c.as_bytes.ensures.value))
      ∙ c.are_salt_and_field.ensures.valid all (codes "1") Md5 refl refl;
}

pub returns-in-Some-strip_prefix : goal.returns-in-Some-strip_prefix
returns-in-Some-strip_prefix c = record {
  valid = λ all.
      let found = c.in-Some-strip_prefix.ensures.cases in
      let text = of_prefix (codes "$apr1$") c.args.stored.now c.in-Some-strip_prefix.rest.now found.0 found.1 found.2 in
      ap (λ (t : List ℕ). md5_kind (mcf t))
      (text ∙ ap (λ l. codes "$apr1$" ++ l) (sym c.as_bytes-in-Some-strip_prefix.ensures.value))
      ∙ c.are_salt_and_field-in-Some-strip_prefix.ensures.valid all (codes "apr1") Apr1 refl refl;
}
