-- The laws of the answer.
use Rattle.std.proofs.Common.{◌≡◌, ℕ, Bool, true, List, refl, sym, ap, ◌∙◌, Result, Ok, Err}
use Rattle.std.specs.Prelude.{is_ok, nat_eq}
use Rattle.std.specs.Cmp.Lexicographic.{pointwise}
use Rattle.mysql_sha2.specs.Check.{answer_by, mysql_answer}
use Rattle.mysql_sha2.specs.Laws.{VerdictWhereCost}
use Rattle.mysql_sha2.specs.Text.{Parts, parts_cost, text_parts}
use Rattle.mysql_sha2.specs.declared.error.MysqlFault.{MysqlFault}

by_parts : (password : List ℕ) (r : Result Parts MysqlFault)
    → is_ok (answer_by (pointwise nat_eq) password r) ≡ is_ok (parts_cost r)
by_parts password (Err e) = refl
by_parts password (Ok p) = refl

pub verdict_where_thousands : VerdictWhereCost
unfolding mysql_answer
verdict_where_thousands password text = by_parts password (text_parts text)
