use Rattle.std.proofs.Common.{rules, ◌≡◌, ◌≤◌, ◌∷◌, true, false, length, sym}
use Rattle.std.specs.Prelude.{◌&&◌, nat_le}
use Rattle.pieces.specs.Pieces.{pieces_at, pieces_left}
use Rattle.phc.specs.Grammar.{has_value_bytes}
use Rattle.phc.proofs.ValueFaults.{invalid, no_fault}
use Rattle.phc.proofs.params.fault_behind_name.Goals as goal

pub returns-then-is_value : goal.returns-then-is_value
returns-then-is_value c =
    let value : (nat_le (length c.args.text.now) 64 && has_value_bytes c.args.text.now) ≡ true = search rules in
    sym (no_fault c.args.text.now value)

pub returns-else-value-gt-MAX_LENGTH : goal.returns-else-value-gt-MAX_LENGTH
returns-else-value-gt-MAX_LENGTH c =
    let none : (nat_le (length c.args.text.now) 64 && has_value_bytes c.args.text.now) ≡ false = search rules in
    let cut : pieces_at 61 c.args.text.now ≡ c.first_piece.result.0.now ∷ pieces_left 61 c.first_piece.result.1 =
    c.first_piece.ensures.pieces in
    let short : length c.first_piece.result.0.now ≤ 64 = search rules in
    sym (invalid c.args.text.now c.first_piece.result.0.now (pieces_left 61 c.first_piece.result.1) cut short none)
