use Rattle.std.proofs.Common.{◌≡◌, ℕ, ◌+◌, ◌-◌, ◌*◌, ◌/◌, ◌++◌, length, take, sym, ap, ap₂, ◌∙◌, arith}
use Rattle.std.proofs.lemmas.List.{length-take, length-drop}
use Rattle.std.proofs.lemmas.Slice.{take-put_mid}
use Rattle.scrypt_plain.specs.Bytes.{bytes}
use Rattle.scrypt_plain.specs.Pbkdf2.{pbkdf2_blocks}
use Rattle.scrypt_plain.proofs.Blocks.{pbkdf2_blocks_more, pbkdf2_blocks_none, pbkdf2_put}
use Rattle.scrypt_plain.proofs.pbkdf2.derive_bytes.Goals as goal

pub outputs-init : goal.outputs-init
outputs-init c = sym (pbkdf2_blocks_none _ _)

pub outputs-preserved : goal.outputs-preserved
outputs-preserved c =
    let i = c.outputs.i in
    let salt = bytes c.args.words.now in
    let digest = c.output_block-block.ensures c.args.password.now salt c.salted_by_words-salted.ensures in
    take-put_mid (32 * i) (32 * i + 32 - 32 * i) c.outputs.out c.copy_from_slice.new.self (32 * (i + 1)) (omega arith)
    (omega arith)
    ∙ ap₂ ◌++◌ c.outputs.invariant (c.copy_from_slice.ensures.after ∙ digest)
    ∙ sym (pbkdf2_blocks_more c.args.password.now salt i)

pub returns-then-rest-gt0 : goal.returns-then-rest-gt0
returns-then-rest-gt0 c =
    let n = length c.args.out.now in
    let salt = bytes c.args.words.now in
    let whole : n / 32 ≡ c.outputs.i = omega arith in
    let digest = c.output_block-last.ensures c.args.password.now salt c.salted_by_words-salted.ensures in
    let last = c.copy_from_slice-then-rest-gt0.ensures.after in
    let before = ap (λ (j : ℕ). take (32 * j) c.outputs.out) whole ∙ c.outputs.invariant
    ∙ ap (pbkdf2_blocks c.args.password.now salt) (sym whole) in
    pbkdf2_put c.args.password.now salt c.outputs.out c.copy_from_slice-then-rest-gt0.new.self (n / 32) n _
    (omega arith) (omega arith) (omega arith) (omega arith) before
    (last ∙ ap₂ take (simp (length-take, length-drop) (omega arith)) digest)
