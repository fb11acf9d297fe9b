-- Nextcloud's texts, the column `password` of its table of users (OC\Security\Hasher): a number, `|` and what PHP's password_hash makes.
use Rattle.std.specs.Prelude.{ℕ, List, Err, codes}
use Rattle.pieces.specs.Pieces.{behind, or_behind}
use Rattle.foreign_text.specs.Answers.{Answer, as_it_is}
use Rattle.foreign_text.specs.declared.fault.ForeignFault.TheVariants.{Unread}
use Rattle.foreign_text.specs.declared.fault.Unread.TheVariants.{Other}

-- `1|$2y$..`, `2|$argon2i$..`, `3|$argon2id$..`
unfoldable pub nextcloud : List ℕ → Answer
nextcloud text =
    or_behind (as_it_is (codes "$2")) (behind text (codes "1|"))
    (or_behind (as_it_is (codes "$argon2i$")) (behind text (codes "2|"))
    (or_behind (as_it_is (codes "$argon2id$")) (behind text (codes "3|")) (Err (Unread Other))))
