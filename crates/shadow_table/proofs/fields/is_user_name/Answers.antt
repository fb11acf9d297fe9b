use Rattle.std.proofs.Common.{◌∙◌, ap}
use Rattle.std.proofs.lemmas.Str.{is_utf8-from_IsUtf8}
use Rattle.shadow_table.specs.Fields.{has_name_bytes}
use Rattle.shadow_table.proofs.fields.is_user_name.Goals as goal

pub returns : goal.returns
returns c =
    record {
      name = rw (is_utf8-from_IsUtf8 c.args.name.now c.utf8.name)
          (c.has_name_bytes.ensures ∙ ap has_name_bytes c.as_bytes.ensures.value);
    }
