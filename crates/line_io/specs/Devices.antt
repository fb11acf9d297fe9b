-- What a source and a sink do to the bytes that they tell.
use Rattle.std.specs.Prelude.{◌≡◌, ℕ, ◌<◌, List, ◌++◌, length, Option, Result, IfOk, IfSome}
use Rattle.std.specs.Prelude.{OnSome}
use Rattle.std.specs.Io.KnownBytes.{Appends, Consumes}

-- a write of a nonempty piece that doesn't fail takes a byte or more
abbrev pub WritesSome : {E : Type 0} → Result ℕ E → List ℕ → Type 0
WritesSome result piece = IfOk result (λ n. 0 < length piece → 0 < n)

-- of bs some bytes from its beginning on were appended
abbrev pub AppendsPrefix : Option (List ℕ) → Option (List ℕ) → List ℕ → Type 0
AppendsPrefix old new bs = (done : List ℕ) × (rest : List ℕ) × (done ++ rest ≡ bs) × Appends old new done

-- Where the source tells its bytes and the sink what it took, P holds of what was held, taken and added.
abbrev pub WhereTold : Option (List ℕ) → Option (List ℕ) → Option (List ℕ) → Option (List ℕ)
    → (List ℕ → List ℕ → List ℕ → Type 0) → Type 0
WhereTold left left_now written written_now P = IfSome left (λ held. OnSome written (
    (taken : List ℕ) × (added : List ℕ) × Consumes left left_now taken × Appends written written_now added
    × P held taken added))
