-- What is told of a source of commands, by the lines that they are made of.
use Rattle.std.proofs.Common.{◌≡◌, ℕ, List, Option, None, Some, rules, subst}
use Rattle.std.specs.Option.{IfSome, OnSome, option_map}
use Rattle.std.specs.Io.KnownBytes.{Appends}
use Rattle.line_io.specs.Devices.{WhereTold}
use Rattle.set_lines.specs.Sets.{set_text}

pub told_of_lines : (left given given_now written written_now : Option (List ℕ)) (P : List ℕ → List ℕ → List ℕ → Type 0)
    → given ≡ option_map set_text left → WhereTold given given_now written written_now P
    → IfSome left (λ held. OnSome written ((taken : List ℕ) × (added : List ℕ) × Appends written written_now added × P (set_text held) taken added))
told_of_lines None given given_now written written_now P is told = search rules
told_of_lines (Some held) given given_now None written_now P is told = search rules
told_of_lines (Some held) given given_now (Some before) written_now P is told =
    let w = subst (λ (o : Option (List ℕ)). WhereTold o given_now (Some before) written_now P) is told in
    (w.0, w.1, w.3, w.4)

pub some_of_lines : (left given : Option (List ℕ)) (Q : List ℕ → Type 0) → given ≡ option_map set_text left → IfSome given Q
    → IfSome left (λ held. Q (set_text held))
some_of_lines None given Q is told = search rules
some_of_lines (Some held) given Q is told = subst (λ (o : Option (List ℕ)). IfSome o Q) is told
