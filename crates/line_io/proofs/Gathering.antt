-- What two steps put into an output buffer.
use Rattle.std.proofs.Common.{◌≡◌, ℕ, ◌≤◌, Bool, true, false, List, [], ◌++◌, Option, refl, sym, ap, ◌∙◌, append_assoc}
use Rattle.std.proofs.Common.{arith}
use Rattle.std.specs.Io.KnownBytes.{Appends}
use Rattle.line_io.specs.Devices.{AppendsPrefix}
use Rattle.pieces.proofs.RisenCounts.{risen_since, risen_still}
use Rattle.line_io.proofs.Moved.{append-nil, appends_none, appends_more}
use Rattle.line_io.specs.Output.{Puts, has_failed, waiting}
use Rattle.line_io.specs.declared.output.OutputBuffer.{OutputBuffer}

-- nothing is put
pub puts_none : (written : Option (List ℕ)) (faults : ℕ) (b : OutputBuffer) → Puts written written faults faults b b []
puts_none written faults b = record {
  added = [];
  rest = waiting b;
  appended = appends_none written;
  split = sym (append-nil (waiting b));
  waits = λ h. refl;
  stays = λ h. (h, refl);
  count = omega arith;
  cause = λ h k. absurd (cc);
}

-- bytes are kept behind those that wait
pub puts_kept : (written : Option (List ℕ)) (faults : ℕ) (before now : OutputBuffer) (put : List ℕ) →
    waiting now ≡ waiting before ++ put → has_failed now ≡ has_failed before → has_failed before ≡ false
    → Puts written written faults faults before now put
puts_kept written faults before now put kept same unfailed = record {
  added = [];
  rest = waiting before ++ put;
  appended = appends_none written;
  split = refl;
  waits = λ h. sym kept;
  stays = λ h. absurd (cc);
  count = omega arith;
  cause = λ h k. absurd (cc);
}

bool_cases : {C : Type 0} → (b : Bool) → (b ≡ true → C) → (b ≡ false → C) → C
bool_cases true f g = f refl
bool_cases false f g = g refl

module _ (w w' w'' : Option (List ℕ)) (f f' f'' : ℕ) (before mid now : OutputBuffer) (xs ys : List ℕ) where
  -- in the second step nothing was added, as a write had failed
  lost : (p : Puts w w' f f' before mid xs) → (q : Puts w' w'' f' f'' mid now ys) → has_failed mid ≡ true
      → Puts w w'' f f'' before now (xs ++ ys)
  lost p q h =
      let none : q.added ≡ [] = (q.stays h).1 in
      let same : p.added ++ q.added ≡ p.added = ap (λ zs. p.added ++ zs) none ∙ append-nil p.added in
      record {
        added = p.added;
        rest = p.rest ++ ys;
        appended = rw same at (appends_more w w' w'' p.added q.added p.appended q.appended);
        split = sym (append_assoc p.added p.rest ys) ∙ ap (λ zs. zs ++ ys) p.split
            ∙ append_assoc (waiting before) xs ys;
        waits = λ e. absurd (let t = (q.stays h).0 in cc);
        stays = λ e. ((q.stays h).0, (p.stays e).1);
        count = omega (arith, p.count, q.count);
        cause = λ a b. risen_still f f' f'' p.count q.count (p.cause a h);
      }

  went_on : (p : Puts w w' f f' before mid xs) → (q : Puts w' w'' f' f'' mid now ys) → has_failed mid ≡ false
      → Puts w w'' f f'' before now (xs ++ ys)
  went_on p q h =
      record {
        added = p.added ++ q.added;
        rest = q.rest;
        appended = appends_more w w' w'' p.added q.added p.appended q.appended;
        split = append_assoc p.added q.added q.rest
            ∙ ap (λ zs. p.added ++ zs) (q.split ∙ ap (λ zs. zs ++ ys) (sym (p.waits h)))
            ∙ sym (append_assoc p.added p.rest ys) ∙ ap (λ zs. zs ++ ys) p.split ∙ append_assoc (waiting before) xs ys;
        waits = q.waits;
        stays = λ e. absurd (let t = (p.stays e).0 in cc);
        count = omega (arith, p.count, q.count);
        cause = λ a b. risen_since f f' f'' p.count (q.cause h b);
      }

  -- two steps
  pub puts_more : Puts w w' f f' before mid xs → Puts w' w'' f' f'' mid now ys → Puts w w'' f f'' before now (xs ++ ys)
  puts_more p q = bool_cases (has_failed mid) (lost p q) (went_on p q)

-- the first step put nothing, or the second
pub puts_after_none : (w w' w'' : Option (List ℕ)) (f f' f'' : ℕ) (before mid now : OutputBuffer) (ys : List ℕ) →
    Puts w w' f f' before mid [] → Puts w' w'' f' f'' mid now ys → Puts w w'' f f'' before now ys
puts_after_none w w' w'' f f' f'' before mid now ys p q = puts_more w w' w'' f f' f'' before mid now [] ys p q

pub puts_then_none : (w w' w'' : Option (List ℕ)) (f f' f'' : ℕ) (before mid now : OutputBuffer) (xs : List ℕ) →
    Puts w w' f f' before mid xs → Puts w' w'' f' f'' mid now [] → Puts w w'' f f'' before now xs
puts_then_none w w' w'' f f' f'' before mid now xs p q =
    rw (append-nil xs) at (puts_more w w' w'' f f' f'' before mid now xs [] p q)

-- after a write failed nothing matters that is put
pub puts_lost : (w w' : Option (List ℕ)) (f f' : ℕ) (before now : OutputBuffer) (xs ys : List ℕ) →
    Puts w w' f f' before now xs → has_failed now ≡ true → Puts w w' f f' before now (xs ++ ys)
puts_lost w w' f f' before now xs ys p h = record {
  added = p.added;
  rest = p.rest ++ ys;
  appended = p.appended;
  split = sym (append_assoc p.added p.rest ys) ∙ ap (λ zs. zs ++ ys) p.split ∙ append_assoc (waiting before) xs ys;
  waits = λ e. absurd (cc);
  stays = p.stays;
  count = p.count;
  cause = p.cause;
}

-- all that was put in an empty buffer was added, where nothing waits then
pub put_whole : (w w' : Option (List ℕ)) (f f' : ℕ) (before now : OutputBuffer) (xs : List ℕ) →
    Puts w w' f f' before now xs → waiting before ≡ [] → has_failed now ≡ false → waiting now ≡ [] → Appends w w' xs
put_whole w w' f f' before now xs p empty unfailed none =
    let rest : p.rest ≡ [] = p.waits unfailed ∙ none in
    let same : p.added ≡ xs =
    sym (append-nil p.added) ∙ ap (λ zs. p.added ++ zs) (sym rest) ∙ p.split ∙ ap (λ zs. zs ++ xs) empty in
    rw same at p.appended

-- else the beginning of it
pub put_part : (w w' : Option (List ℕ)) (f f' : ℕ) (before now : OutputBuffer) (xs : List ℕ) →
    Puts w w' f f' before now xs → waiting before ≡ [] → AppendsPrefix w w' xs
put_part w w' f f' before now xs p empty = (p.added, p.rest, p.split ∙ ap (λ zs. zs ++ xs) empty, p.appended)
