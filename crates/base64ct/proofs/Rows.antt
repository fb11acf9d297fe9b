-- Some texts, wrapped and taken apart, computed.
use Rattle.std.proofs.Common.{◌≡◌, [], ◌∷◌, ◌++◌, Some, None, refl}
use Rattle.std.specs.Prelude.{codes}
use Rattle.base64ct.specs.Encoding.{low_bits, number, bits, sixes, groups, encoding}
use Rattle.base64ct.specs.Blocks.{blocks}
use Rattle.base64ct.specs.Alphabets.{base64, base64_unpadded}
use Rattle.base64ct.specs.Wrapping.{wrap, layout, without_end, characters_from}
use Rattle.base64ct.specs.Blocks.{size_of, size_of_blocks}

six_zeros : wrap (encoding base64 (0 ∷ 0 ∷ 0 ∷ 0 ∷ 0 ∷ 0 ∷ [])) 4 (10 ∷ []) ≡ codes "AAAA" ++ 10 ∷ codes "AAAA"
unfolding encoding groups sixes bits low_bits number
six_zeros = refl

full_line : wrap (codes "AAAAAAAA") 8 (10 ∷ []) ≡ codes "AAAAAAAA"
full_line = refl

two_lines : layout (codes "AAAA" ++ 13 ∷ 10 ∷ codes "AAAA" ++ 10 ∷ []) (Some 4) ≡ Some (codes "AAAAAAAA")
unfolding without_end characters_from
two_lines = refl

two_ends : layout (codes "AAAA" ++ 10 ∷ 10 ∷ []) (Some 4) ≡ None
unfolding without_end characters_from
two_ends = refl

inside : layout (codes "AA*AAAAA") None ≡ Some (codes "AA*AAAAA")
unfolding without_end
inside = refl

five_wide : layout (codes "AQIDB" ++ 13 ∷ codes "AUG") (Some 5) ≡ Some (codes "AQIDBAUG")
unfolding without_end characters_from
five_wide = refl

six_left : size_of base64_unpadded (codes "AQIDBAUG") ≡ 6
unfolding blocks size_of_blocks
six_left = refl
