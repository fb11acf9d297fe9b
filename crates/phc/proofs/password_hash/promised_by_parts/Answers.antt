use Rattle.std.proofs.Common.{◌≤◌, length, ap, sym, ◌∙◌}
use Rattle.std.specs.List.{list_all}
use Rattle.phc.specs.Grammar.{is_name}
use Rattle.phc.specs.Record.{is_pair}
use Rattle.phc.proofs.PairTexts.{pairs_valid}
use Rattle.phc.proofs.Readable.{text_bound}
use Rattle.phc.proofs.password_hash.promised_by_parts.Goals as goal

pub returns : goal.returns
returns c =
    let text = c.as_str-2.result.now in
    let bound : length text ≤ 127 = text_bound text c.as_str-2.ensures.valid in
    record {
      algorithm = ap is_name (sym c.as_str.ensures.text) ∙ c.as_str.ensures.name;
      version = c.promised_by_version.ensures;
      pairs = ap (list_all is_pair) (sym c.as_str-2.ensures.pairs) ∙ pairs_valid text c.as_str-2.ensures.valid;
      params = rw (← c.as_str-2.ensures.text) bound;
      salt = c.promised_by_salt.ensures;
      hash = c.promised_by_hash.ensures;
    }
