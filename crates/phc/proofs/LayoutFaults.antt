-- Where an identifier and the pieces after it have no fault, none of the parts has one.
use Rattle.std.proofs.Common.{◌≡◌, ℕ, true, List, [], ◌∷◌}
use Rattle.std.specs.Prelude.{Option, None}
use Rattle.pieces.specs.Faults.{unless}
use Rattle.pieces.specs.Lists.{is_empty}
use Rattle.pieces.proofs.FaultLaws.{first_none, unless_none}
use Rattle.phc.specs.Grammar.{Layout, fault_of, fault_of_layout, hash_fault, is_name, name_fault, salt_fault}
use Rattle.phc.specs.Grammar.{text_fault, version_fault}
use Rattle.phc.specs.declared.error.Error.{Error}
use Rattle.phc.specs.declared.error.Error.TheVariants.{ParamNameInvalid, TrailingData}

pub record HasGoodParts (id : List ℕ) (l : Layout) : Type 0 where
  pub name : is_name id ≡ true
  pub version : fault_of version_fault l.version ≡ None
  pub params : fault_of text_fault l.params ≡ None
  pub salt : fault_of salt_fault l.salt ≡ None
  pub hash : fault_of hash_fault l.hash ≡ None
  pub end : is_empty l.rest ≡ true

-- the faults behind each part
abbrev pub behind_hash : Layout → List (Option Error)
behind_hash l = unless (is_empty l.rest) TrailingData ∷ []

abbrev pub behind_salt : Layout → List (Option Error)
behind_salt l = fault_of hash_fault l.hash ∷ behind_hash l

abbrev pub behind_params : Layout → List (Option Error)
behind_params l = fault_of salt_fault l.salt ∷ behind_salt l

abbrev pub behind_version : Layout → List (Option Error)
behind_version l = fault_of text_fault l.params ∷ behind_params l

abbrev pub behind_id : Layout → List (Option Error)
behind_id l = fault_of version_fault l.version ∷ behind_version l

pub good_parts : (id : List ℕ) (l : Layout) → fault_of_layout id l ≡ None → HasGoodParts id l
good_parts id l h =
    let name = first_none (name_fault id) (behind_id l) h in
    let version = first_none (fault_of version_fault l.version) (behind_version l) name.1 in
    let params = first_none (fault_of text_fault l.params) (behind_params l) version.1 in
    let salt = first_none (fault_of salt_fault l.salt) (behind_salt l) params.1 in
    let hash = first_none (fault_of hash_fault l.hash) (behind_hash l) salt.1 in
    let end = first_none (unless (is_empty l.rest) TrailingData) [] hash.1 in
    record {
      name = unless_none (is_name id) ParamNameInvalid name.0;
      version = version.0;
      params = params.0;
      salt = salt.0;
      hash = hash.0;
      end = unless_none (is_empty l.rest) TrailingData end.0;
    }
