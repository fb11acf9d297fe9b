-- The lines of `bench` by computing. The texts are those of a program over Python's hashlib and libxcrypt, with
-- ChaCha20 after RFC 8439.
use Rattle.std.specs.Prelude.{◌≡◌, codes, refl}
use Rattle.rand_chacha.specs.Block.{block_word, column_round, diagonal_round, double_rounds, quarter_round}
use Rattle.rand_core.specs.Steps.{stream_of, u32_at}
use Rattle.rand_core.specs.Stream.{next_u32}
use Rattle.sha_crypt.specs.Simple.{characters}
use Rattle.pwcheck_run.specs.Bench.{asked_password, drawn}

password_of_line_0 : (drawn 8 0).0 ≡ codes "gye35COH"
unfolding drawn characters next_u32 stream_of u32_at block_word double_rounds column_round diagonal_round quarter_round
password_of_line_0 = refl

salt_of_line_0 : (characters 16 (drawn 8 0).1).0 ≡ codes "tUmPzFo/ELl7m5Wm"
unfolding drawn characters next_u32 stream_of u32_at block_word double_rounds column_round diagonal_round quarter_round
salt_of_line_0 = refl

password_of_line_3 : asked_password 3 (drawn 8 3).0 ≡ codes "Z8KPd.q/x"
unfolding drawn characters next_u32 stream_of u32_at block_word double_rounds column_round diagonal_round quarter_round
password_of_line_3 = refl
