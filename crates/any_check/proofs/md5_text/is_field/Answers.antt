use Rattle.std.proofs.lemmas.Bool.{and_parts}
use Rattle.any_check.proofs.Md5Fields.{all_of_two, field_of_two}
use Rattle.any_check.proofs.md5_text.is_field.Goals as goal

pub returns-clause-characters : goal.returns-clause-characters
returns-clause-characters c all =
    let both = and_parts _ _ all in
    let first = and_parts c.are_characters.result c.are_characters-2.result both.0 in
    all_of_two c.args.text.now c.if-text-ne22.false (c.are_characters.ensures.characters first.0)
    (c.are_characters-2.ensures.characters first.1)

pub returns-clause-field : goal.returns-clause-field
returns-clause-field c all =
    let both = and_parts _ _ all in
    let first = and_parts c.are_characters.result c.are_characters-2.result both.0 in
    field_of_two c.args.text.now c.if-text-ne22.false (c.are_characters.ensures.characters first.0)
    (c.are_characters-2.ensures.characters first.1) both.1
