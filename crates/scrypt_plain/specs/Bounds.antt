-- The parameters that this crate takes: those of RFC 7914, section 2, with N = 2 ^ ln, below limits of
-- this crate's own on memory and on the number of parts.
use Rattle.std.specs.Prelude.{ℕ, ◌*◌, ◌^◌, Bool, ◌&&◌, nat_lt, nat_le}

-- N is a power of 2 above 1, at most 2 ^ 24 and below 2 ^ (128 * r / 8); there are 1 to 1,024 parts; the parts have at
-- most 2 ^ 24 bytes together, and the table at most 2 ^ 28. The bound of 24 on ln is implied: with r = 1 the third
-- bound leaves ln at most 15; else that on the table leaves ln at most 20 with r = 2, 18 with r = 8, and less the
-- greater r is.
abbrev pub in_bounds : ℕ → ℕ → ℕ → Bool
in_bounds ln r p =
    nat_le 1 ln && nat_le ln 24 && nat_lt ln (16 * r) && nat_le 1 r && nat_le 1 p && nat_le p 1024
    && nat_le (r * p) 131072 && nat_le (128 * r * 2 ^ ln) (2 ^ 28)
