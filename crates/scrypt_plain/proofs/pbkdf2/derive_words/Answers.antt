use Rattle.std.proofs.Common.{◌≡◌, ◌+◌, ◌-◌, ◌*◌, ◌++◌, length, sym, ap, ap₂, ◌∙◌, arith}
use Rattle.std.proofs.lemmas.List.{take_all}
use Rattle.std.proofs.lemmas.Slice.{take-put_mid}
use Rattle.scrypt_plain.specs.Bytes.{bytes}
use Rattle.scrypt_plain.proofs.Blocks.{bytes-append, pbkdf2_blocks_more, pbkdf2_blocks_none, pbkdf2_whole}
use Rattle.scrypt_plain.proofs.pbkdf2.derive_words.Goals as goal

pub outputs-init : goal.outputs-init
outputs-init c = sym (pbkdf2_blocks_none _ _)

pub outputs-preserved : goal.outputs-preserved
outputs-preserved c =
    let i = c.outputs.i in
    let salted = c.update.ensures _ _ c.new-salted.ensures in
    let digest = c.output_block-digest.ensures c.args.password.now c.args.salt.now salted in
    ap bytes (take-put_mid (8 * i) (8 * i + 8 - 8 * i) c.outputs.out c.put_words.new.out (8 * (i + 1)) (omega arith)
    (omega arith))
    ∙ bytes-append _ _
    ∙ ap₂ ◌++◌ c.outputs.invariant (c.put_words.ensures ∙ digest)
    ∙ sym (pbkdf2_blocks_more c.args.password.now c.args.salt.now i)

pub returns : goal.returns
returns c =
    let i = c.outputs.i in
    let all : 8 * i ≡ length c.outputs.out = omega arith in
    let blocks = ap bytes (sym (take_all (8 * i) c.outputs.out (omega arith))) ∙ c.outputs.invariant in
    blocks ∙ pbkdf2_whole c.args.password.now c.args.salt.now i (4 * length c.args.out.now) (omega arith)
