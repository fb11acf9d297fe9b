use Rattle.std.proofs.Common.{◌≡◌, ℕ, List, drop, sym, ap, ◌∙◌}
use Rattle.std.proofs.lemmas.Option.{same_Some}
use Rattle.base64ct.specs.Blocks.{decoded, AskedAreGood}
use Rattle.base64ct.specs.Decoders.{left}
use Rattle.base64ct.proofs.GoodBlocks.{encoding_by_blocks}
use Rattle.base64ct.proofs.Wholes.{all_asked}
use Rattle.base64ct.proofs.Runs.{opened, run_slices}
use Rattle.base64ct.proofs.laws.decoded_in_parts.Goals as goal

pub returns : goal.returns
returns g c = λ text t b width wide stands below is d new lengths answers made_of start run.
    let a = g.E.Alphabet.alphabet in
    let made = opened a g.met.E.Alphabet.lawful g.met.E.Alphabet.no_ending text t b width wide stands below is in
    let same : t ≡ d.text = same_Some t d.text (sym made.1.0 ∙ made_of.0) in
    let good : (from n : ℕ) → AskedAreGood a d.text from n =
    all_asked a d.text ((encoding_by_blocks a d.text g.met.E.Alphabet.lawful).0 (b, below, sym same ∙ is)) in
    let whole : left a d ≡ b =
    ap (λ (k : ℕ). drop k (decoded a d.text)) start ∙ ap (λ (l : List ℕ). decoded a l) (sym same) ∙ made.2 in
    run_slices a d new lengths answers b whole good run
