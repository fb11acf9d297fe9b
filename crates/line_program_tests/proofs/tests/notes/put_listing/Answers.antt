use Rattle.std.proofs.Common.{◌≡◌, List, ℕ, [], ◌∷◌, ◌++◌, map, take, vec_items, get_or, ap, ◌∙◌}
use Rattle.line_io.proofs.Gathering.{puts_more}
use Rattle.line_program_tests.specs.Toys.{listing}
use Rattle.line_program_tests.proofs.ToyListing.{listing_step}
use Rattle.line_program_tests.proofs.tests.notes.put_listing.Goals as goal

pub loop-text-preserved : goal.loop-text-preserved
loop-text-preserved g c =
    let before : List ℕ = listing (map vec_items (take c.loop-text.text-index c.args.texts.now)) in
    let item : c.as_slice.result.now ≡ vec_items (get_or c.args.texts.now c.loop-text.text-index c.text-item.result) =
    c.as_slice.ensures.value ∙ ap vec_items c.text-item.is in
    let first = puts_more _ _ _ _ _ _ c.args.out.now c.loop-text.out c.put.new.self before c.as_slice.result.now
    c.loop-text.invariant c.put.ensures.puts in
    let both = puts_more _ _ _ _ _ _ c.args.out.now c.put.new.self c.put-in-loop-text.new.self
    (before ++ c.as_slice.result.now) (10 ∷ []) first c.put-in-loop-text.ensures.puts in
    let all = listing_step vec_items c.loop-text.text-index c.args.texts.now c.text-item.result c.loop-text-test.true in
    rw all (rw item at both)
