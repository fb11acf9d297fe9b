use Rattle.std.proofs.Common.{◌≡◌, ℕ, ◌^◌, ◌<◌, List, rules, sym, subst, arith}
use Rattle.std.specs.Str.{IsUtf8}
use Rattle.sha_crypt.specs.RecordViews.{family_of, fields_of_record, printed}
use Rattle.sha_crypt.proofs.Utf8.{record_text_utf8}
use Rattle.sha_crypt.proofs.record.ShaRecord.text.Goals as goal

pub returns-clause-utf8 : goal.returns-clause-utf8
returns-clause-utf8 c =
    let is : c.text_of_fields.result ≡ printed c.args.self.now = search rules in
    let salt : IsUtf8 c.args.self.now.salt.now = subst (λ (t : List ℕ). IsUtf8 t) c.salt.ensures.salt c.salt.utf8 in
    let hash : IsUtf8 c.args.self.now.hash.now = subst (λ (t : List ℕ). IsUtf8 t) c.hash.ensures.hash c.hash.utf8 in
    let small : c.args.self.now.rounds < 2 ^ 64 = omega arith in
    subst (λ (t : List ℕ). IsUtf8 t) (sym is)
    (record_text_utf8 (family_of c.args.self.now) (fields_of_record c.args.self.now) small salt hash)
