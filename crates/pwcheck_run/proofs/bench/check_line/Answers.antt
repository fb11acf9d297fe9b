use Rattle.std.proofs.Common.{ℕ, List, ◌++◌, ap, sym, ◌∙◌}
use Rattle.std.specs.Prelude.{codes}
use Rattle.std.proofs.lemmas.Str.{IsAscii-append, IsUtf8-from_ascii}
use Rattle.rand_chacha.specs.ChaCha.{ChaCha, next_word}
use Rattle.rand_core.specs.Steps.{steps_u32, stream_of}
use Rattle.rand_core.specs.Stream.{Stream}
use Rattle.sha_crypt.specs.Simple.{characters}
use Rattle.pwcheck_run.proofs.MadeLines.{drawn_is, letter_ascii, line_is}
use Rattle.pwcheck_run.proofs.bench.check_line.Goals as goal

pub from_utf8_unchecked-password-requires : goal.from_utf8_unchecked-password-requires
from_utf8_unchecked-password-requires c = IsUtf8-from_ascii _ c.random_characters-drawn.ensures.ascii

pub from_utf8_unchecked-longer-requires : goal.from_utf8_unchecked-longer-requires
from_utf8_unchecked-longer-requires c =
    rw c.with_letter-letters.ensures
    (IsUtf8-from_ascii _ (IsAscii-append c.random_characters-drawn.result (codes "x")
    c.random_characters-drawn.ensures.ascii letter_ascii))

pub returns : goal.returns
returns c =
    let left : Stream = stream_of (steps_u32 (next_word 10)) c.random_characters-drawn.new.rng in
    let pair = ap (λ (xs : List ℕ). (xs, left)) c.from_utf8_unchecked-password.ensures
    ∙ c.random_characters-drawn.ensures.characters
    ∙ ap (λ (g : ChaCha). characters 8 (stream_of (steps_u32 (next_word 10)) g)) c.line_rng-rng.ensures
    ∙ drawn_is c.args.n c.args.i in
    line_is c.args.n c.args.i c.from_utf8_unchecked-password.result.now c.as_str.result.now c.asked.result.now
    c.from_utf8_unchecked-longer.result.now left c.check_stored.result _
    pair (c.as_str.ensures.value ∙ c.in-Some.ensures)
    (c.from_utf8_unchecked-longer.ensures ∙ c.with_letter-letters.ensures
    ∙ ap (λ (xs : List ℕ). xs ++ codes "x") (sym c.from_utf8_unchecked-password.ensures))
    c.asked.ensures c.check_stored.ensures.verdict
