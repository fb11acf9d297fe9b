-- Small texts and their lines, computed. `grep -c ''` counts as many lines in them: 0, 1, 1, 1, 2, 2, 3.
use Rattle.std.proofs.Common.{◌≡◌, [], ◌∷◌, refl}
use Rattle.std.specs.Prelude.{codes}
use Rattle.line_io.specs.Lines.{lines, whole_lines}

lines_of_nothing : lines [] ≡ []
lines_of_nothing = refl

lines_of_feed : lines (codes "\n") ≡ [] ∷ []
lines_of_feed = refl

lines_of_one : lines (codes "a\n") ≡ codes "a" ∷ []
lines_of_one = refl

lines_of_last : lines (codes "ab") ≡ codes "ab" ∷ []
lines_of_last = refl

lines_of_feeds : lines (codes "\n\n") ≡ [] ∷ [] ∷ []
lines_of_feeds = refl

lines_of_return : lines (codes "a\r\nb") ≡ codes "a\r" ∷ codes "b" ∷ []
lines_of_return = refl

lines_of_three : lines (codes "a\n\nbc\n") ≡ codes "a" ∷ [] ∷ codes "bc" ∷ []
lines_of_three = refl

whole_of_last : whole_lines (codes "ab") ≡ []
whole_of_last = refl

whole_of_two : whole_lines (codes "a\nb\nc") ≡ codes "a\nb\n"
whole_of_two = refl

whole_of_all : whole_lines (codes "a\n") ≡ codes "a\n"
whole_of_all = refl
