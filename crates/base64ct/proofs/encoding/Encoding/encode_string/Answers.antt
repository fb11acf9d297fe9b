use Rattle.std.proofs.Common.{◌≡◌, List, ℕ, ◌+◌, ◌++◌, [], take, drop, length, ◌∙◌, ap, arith}
use Rattle.std.proofs.lemmas.List.{take_at, drop_all, append-nil}
use Rattle.std.proofs.lemmas.Str.{IsUtf8-from_ascii}
use Rattle.base64ct.specs.Encoding.{encoding}
use Rattle.base64ct.proofs.Ascii.{encoding_ascii}
use Rattle.base64ct.proofs.encoding.Encoding.encode_string.Goals as goal

pub from_utf8_unchecked-requires : goal.from_utf8_unchecked-requires
from_utf8_unchecked-requires g c =
    let text : List ℕ = encoding g.Self.Alphabet.alphabet c.args.input.now in
    let items : List ℕ = c.in_ok-out.out.items in
    let none : drop (c.encoding_lens-count.result.0 + c.encoding_lens-count.result.1) c.deref_mut.result.now ≡ [] =
    drop_all _ c.deref_mut.result.now (omega (arith, c.in_ok-out.ensures.len)) in
    let whole : c.encode_padded.new.dst ≡ text =
    c.encode_padded.ensures ∙ ap (λ (x : List ℕ). text ++ x) none ∙ append-nil text in
    let front : take c.in_ok-out.out.len (c.encode_padded.new.dst ++ drop (length c.encode_padded.new.dst) items)
    ≡ text = take_at c.encode_padded.new.dst _ c.in_ok-out.out.len (omega (arith, c.in_ok-out.ensures.len))
    ∙ whole in
    rw front (IsUtf8-from_ascii text
    (encoding_ascii g.Self.Alphabet.alphabet c.args.input.now g.met.Self.Alphabet.ascii))
