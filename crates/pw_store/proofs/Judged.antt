-- Histories of one content are answered alike, from then on.
use Rattle.std.proofs.Common.{◌≡◌, inl, inr, ℕ, cond, List, [], ◌++◌, length, refl, sym, ap, ◌∙◌, Option, Some, None}
use Rattle.std.specs.Prelude.{nat_lt, fold, map, unwrap_or}
use Rattle.std.proofs.lemmas.List.Sums.{fold-append}
use Rattle.line_io.specs.Limits.{line_max}
use Rattle.line_log.specs.Log.{recovered}
use Rattle.pw_file.specs.Commands.{command}
use Rattle.pw_file.specs.History.{History, Reply, Rows, Says, IsContentOf, change, text, text_after, users, users_after}
use Rattle.pw_file.specs.Replies.{reply, reply_by}
use Rattle.pw_file.specs.declared.reply.Word.TheVariants.{TooLong}
use Rattle.pw_file.specs.Policy.{TextPolicy}
use Rattle.pw_store.specs.Store.{recovered_rows, taken}
use Rattle.pw_store.specs.Laws.{SameContent, JudgedByLast}
use Rattle.pw_store.proofs.Contents.{of_file}

module _ {T V : Type 0} (p : TextPolicy T V) where
  same_of : (h k : History) (table : Rows) → IsContentOf p h table → IsContentOf p k table → SameContent p h k
  same_of h k table a b = record { users = sym a.users ∙ b.users; texts = λ user. sym (a.texts user) ∙ b.texts user }

  text_on : (h k : History) (more : History) (user : List ℕ) → text p h user ≡ text p k user → text p (h ++ more) user ≡ text p (k ++ more) user
  unfolding text
  text_on h k more user same =
      let step = λ (last : Option (List ℕ)) (pair : List ℕ × Reply). text_after user last (change p pair) in
      fold-append step None h more
      ∙ ap (λ (o : Option (List ℕ)). fold step o more) same
      ∙ sym (fold-append step None k more)

  users_on : (h k : History) (more : History) → users p h ≡ users p k → users p (h ++ more) ≡ users p (k ++ more)
  unfolding users
  users_on h k more same =
      let step = λ (seen : List (List ℕ)) (pair : List ℕ × Reply). users_after seen (change p pair) in
      fold-append step [] h more
      ∙ ap (λ (o : List (List ℕ)). fold step o more) same
      ∙ sym (fold-append step [] k more)

  same_on : (h k : History) (more : History) → SameContent p h k → SameContent p (h ++ more) (k ++ more)
  same_on h k more same = record { users = users_on h k more same.users; texts = λ user. text_on h k more user (same.texts user) }

  reply_same : (h k : History) (line : List ℕ) → SameContent p h k → reply p h line ≡ reply p k line
  unfolding reply
  reply_same h k line same =
      let texts : text p h ≡ text p k = λ i user. same.texts user i in
      λ i. cond (nat_lt line_max (length line)) (Says TooLong)
      (reply_by p (texts i) (length (same.users i)) (map (λ (user : List ℕ). (user, unwrap_or (texts i user) [])) (same.users i)) (command p line))

  -- a file of the same content
  pub alike : (h : History) (table : Rows) (file : List ℕ) → IsContentOf p h table → recovered_rows p file ≡ Some table
      → (later : History) (line : List ℕ) → reply p (h ++ later) line ≡ reply p (taken (recovered file) ++ later) line
  alike h table file held is later line =
      reply_same (h ++ later) (taken (recovered file) ++ later) line
      (same_on h (taken (recovered file)) later (same_of h (taken (recovered file)) table held (of_file p file table is)))

  pub judged : JudgedByLast p
  judged answered under_way file left =
      let found = of_file p file left.rows left.stands.rows_are in
      let alike : (h : History) → IsContentOf p h left.rows → (later : History) (line : List ℕ) → reply p (h ++ later) line ≡ reply p (taken (recovered file) ++ later) line = λ h held later line.
      reply_same (h ++ later) (taken (recovered file) ++ later) line (same_on h (taken (recovered file)) later (same_of h (taken (recovered file)) left.rows held found)) in
      elim left.content [
        | inl held ↦ (answered, inl refl, alike answered held)
        | inr held ↦ (answered ++ under_way, inr refl, alike (answered ++ under_way) held)
      ]
