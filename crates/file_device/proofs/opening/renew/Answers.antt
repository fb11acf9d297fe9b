use Rattle.std.proofs.Common.{◌≡◌, ◌∷◌, ◌-◌, ℕ, [], true, List, drop, length, ap, arith, ◌∙◌}
use Rattle.std.proofs.lemmas.List.{length-drop, take_all}
use Rattle.file_device.specs.Calls.{Call, Opened, Wrote}
use Rattle.file_device.proofs.Steps.{opened_healthy, opened_renewed, opened_seen}
use Rattle.file_device.proofs.opening.renew.Goals as goal

calls : (c : goal.After-noted) → c.noted.result.calls ≡ Wrote true c.saturating_sub-at.result (drop c.saturating_sub-at.result c.args.bytes.now) ∷ Opened c.args.bytes.now ∷ []
calls c =
    let at = c.saturating_sub-at.result in
    let bytes = c.args.bytes.now in
    let len = length-drop at bytes in
    c.noted.ensures.call
    ∙ ap (λ (tail : List ℕ). Wrote true at tail ∷ c.noted-opened.result.calls) (take_all (length bytes - at) (drop at bytes) (omega (arith, len)))
    ∙ ap (λ (calls : List Call). Wrote true at (drop at bytes) ∷ calls) (c.noted-opened.ensures.call ∙ ap (λ (calls : List Call). Opened bytes ∷ calls) c.new.ensures.none)

pub returns-clause-seen : goal.returns-clause-seen
returns-clause-seen c = opened_seen c.noted.result.calls c.args.bytes.now c.saturating_sub-at.result (calls c) (let is = c.saturating_sub-at.ensures in omega (arith, is))

pub returns-clause-healthy : goal.returns-clause-healthy
returns-clause-healthy c = opened_healthy c.noted.result.calls c.args.bytes.now c.saturating_sub-at.result (calls c)

pub returns-clause-renewed : goal.returns-clause-renewed
returns-clause-renewed c = opened_renewed c.noted.result.calls c.args.bytes.now c.saturating_sub-at.result (calls c) c.saturating_sub-at.ensures
