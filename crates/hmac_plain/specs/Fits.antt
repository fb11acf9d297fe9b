-- A digest is no longer than a block, and a block is small: proofs, which are here since implementations of a trait name them.
use Rattle.std.proofs.Common.{◌≤◌, arith}

pub fits_32 : 32 ≤ 64
fits_32 = omega arith

pub fits_48 : 48 ≤ 128
fits_48 = omega arith

pub fits_64 : 64 ≤ 128
fits_64 = omega arith

pub small_64 : 64 ≤ 4096
small_64 = omega arith

pub small_128 : 128 ≤ 4096
small_128 = omega arith
