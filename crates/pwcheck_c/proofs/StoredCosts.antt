-- The cost of a stored text, by what the calls below say of it.
use Rattle.std.proofs.Common.{◌≡◌, ℕ, true, List, refl, sym, ap, ◌∙◌}
use Rattle.std.specs.Prelude.{Option, Some, None}
use Rattle.std.specs.Option.{option_map}
use Rattle.mcf.specs.Grammar.{fault, mcf, parts}
use Rattle.mcf.specs.declared.error.Error as mcf_error
use Rattle.mcf.proofs.Ascii.{mcf_of_valid}
use Rattle.mcf.proofs.ValidTexts.{pieces_of_valid}
use Rattle.phc.specs.Record.{phc, phc_text}
use Rattle.sha_crypt.specs.Check.{text_fields}
use Rattle.sha_crypt.specs.Families.{scheme_fields}
use Rattle.sha_crypt.specs.Records.{family_id, family_scheme, record_of}
use Rattle.sha_crypt.specs.declared.errors.Family.{Family}
use Rattle.stored_check.specs.Verdict.{named_family, same_text}
use Rattle.stored_check.proofs.FamilyTexts.{id_of_family}
use Rattle.pwcheck_c.specs.Costs.{fields_cost, parts_cost, phc_cost, stored_cost, text_cost}

-- a text with a fault has none
pub cost_of_fault : (stored : List ℕ) (e : mcf_error.Error) → fault stored ≡ Some e → stored_cost stored ≡ None
unfolding stored_cost mcf
cost_of_fault stored e bad = rw bad refl

cost_of_parts : (stored : List ℕ) → fault stored ≡ None
    → stored_cost stored ≡ parts_cost (option_map family_scheme (named_family (parts stored).id)) (parts stored)
unfolding stored_cost
cost_of_parts stored valid = ap text_cost (mcf_of_valid stored valid)

fields_are : (family : Family) (stored : List ℕ) → fault stored ≡ None
    → same_text (parts stored).id (family_id family) ≡ true
    → record_of family stored ≡ scheme_fields (family_scheme family) (parts stored).fields
unfolding text_fields
fields_are family stored valid same = rw (pieces_of_valid stored valid, same) refl

pub cost_of_family : (stored : List ℕ) (family : Family) → fault stored ≡ None
    → named_family (parts stored).id ≡ Some family → stored_cost stored ≡ fields_cost (record_of family stored)
cost_of_family stored family valid named =
    let same = id_of_family (parts stored).id family named in
    cost_of_parts stored valid
    ∙ ap (λ (o : Option Family). parts_cost (option_map family_scheme o) (parts stored)) named
    ∙ ap fields_cost (sym (fields_are family stored valid same))

phc_is : (stored : List ℕ) → fault stored ≡ None → phc_text stored ≡ phc (parts stored).id (parts stored).fields
unfolding phc_text
phc_is stored valid = rw (pieces_of_valid stored valid) refl

pub cost_of_other : (stored : List ℕ) → fault stored ≡ None → named_family (parts stored).id ≡ None
    → stored_cost stored ≡ phc_cost (phc_text stored)
cost_of_other stored valid none =
    cost_of_parts stored valid
    ∙ ap (λ (o : Option Family). parts_cost (option_map family_scheme o) (parts stored)) none
    ∙ ap phc_cost (sym (phc_is stored valid))
