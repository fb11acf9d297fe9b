use Rattle.std.proofs.Common.{rules, ◌≡◌, None, ap, sym, ◌∙◌}
use Rattle.phc.specs.Grammar.{text_fault, text_pairs}
use Rattle.phc.specs.Params.{pairs_text}
use Rattle.phc.specs.PairsOfText.{pairs_text-text_pairs}
use Rattle.phc.proofs.PairLemmas.{text_utf8}
use Rattle.phc.proofs.params.ParamsString.as_str.Goals as goal

pub from_utf8_unchecked-requires : goal.from_utf8_unchecked-requires
from_utf8_unchecked-requires c = rw c.as_slice.ensures.value (text_utf8 _ c.self.invariant)

pub returns-clause-text : goal.returns-clause-text
returns-clause-text c =
    let pairs : text_pairs c.from_utf8_unchecked.result.now ≡ c.args.self.now = search rules in
    let valid : text_fault c.from_utf8_unchecked.result.now ≡ None = search rules in
    sym (pairs_text-text_pairs c.from_utf8_unchecked.result.now valid) ∙ ap pairs_text pairs
