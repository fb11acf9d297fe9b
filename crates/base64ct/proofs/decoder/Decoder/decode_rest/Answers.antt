use Rattle.std.proofs.Common.{◌≡◌, ℕ, ◌++◌, List, length, replicate, sym, ap, ◌∙◌, subst, arith}
use Rattle.std.proofs.lemmas.List.{length-replicate}
use Rattle.base64ct.specs.Blocks.{AskedAreGood}
use Rattle.base64ct.specs.Decoders.{left}
use Rattle.base64ct.proofs.Parts.{rest_given, lengthened, cut_back}
use Rattle.base64ct.proofs.decoder.Decoder.decode_rest.Goals as goal

pub returns-in-Ok-decode_into : goal.returns-in-Ok-decode_into
returns-in-Ok-decode_into g c =
    let a = g.E.Alphabet.alphabet in
    let buf : List ℕ = c.args.buf.now.items in
    let zeros : List ℕ = replicate c.remaining_len.result 0 in
    let lz : length zeros ≡ length (left a c.args.self.now) =
    length-replicate {A = ℕ} c.remaining_len.result 0 ∙ c.remaining_len.ensures.left in
    let x : c.deref_mut.result.now ≡ buf ++ zeros = c.deref_mut.ensures.value ∙ c.in-Ok.ensures.1 in
    let len : c.lengthen.new.buf.len ≡ length c.deref_mut.result.now =
    c.lengthen.new.buf.ok.0 ∙ ap length (sym c.deref_mut.ensures.value) in
    let n = lengthened buf c.deref_mut.result.now c.in-Ok.start c.remaining_len.result c.in-Ok.ensures.0 x
    ∙ c.remaining_len.ensures.left in
    let given = rest_given a c.args.self.now c.decode_into.new.self buf c.deref_mut.result.now c.decode_into.new.out
    zeros c.in-Ok.start c.lengthen.new.buf.len _ c.lengthen.new.buf.items c.in-Ok.ensures.0 x len lz n
    (c.in-Ok-decode_into.ensures.answer (omega (arith, n))) in
    record { answer = (c.in-Ok.ensures.0, given.0, given.1) }

pub returns-in-Err-decode_into : goal.returns-in-Err-decode_into
returns-in-Err-decode_into g c =
    let a = g.E.Alphabet.alphabet in
    let buf : List ℕ = c.args.buf.now.items in
    let zeros : List ℕ = replicate c.remaining_len.result 0 in
    let lz : length zeros ≡ length (left a c.args.self.now) =
    length-replicate {A = ℕ} c.remaining_len.result 0 ∙ c.remaining_len.ensures.left in
    let x : c.deref_mut.result.now ≡ buf ++ zeros = c.deref_mut.ensures.value ∙ c.in-Ok.ensures.1 in
    let len : c.lengthen.new.buf.len ≡ length c.deref_mut.result.now =
    c.lengthen.new.buf.ok.0 ∙ ap length (sym c.deref_mut.ensures.value) in
    let n = lengthened buf c.deref_mut.result.now c.in-Ok.start c.remaining_len.result c.in-Ok.ensures.0 x
    ∙ c.remaining_len.ensures.left in
    let bad = c.in-Err-decode_into.ensures.answer (omega (arith, n)) in
    record {
      answer = (
        (λ _ good. bad.1 (subst (λ (k : ℕ). AskedAreGood a c.args.self.now.text c.args.self.now.read k) (sym n) good)),
        bad.2,
        c.truncate.ensures.items
            ∙ cut_back buf c.deref_mut.result.now c.decode_into.new.out zeros c.in-Ok.start c.lengthen.new.buf.len
            c.lengthen.new.buf.items c.in-Ok.ensures.0 x len (omega (arith, n, lz)),
      );
    }
