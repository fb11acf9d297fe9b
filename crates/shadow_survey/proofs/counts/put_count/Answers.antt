use Rattle.std.proofs.Common.{◌≡◌, ◌∙◌, ◌++◌, ◌∷◌, [], List, ℕ, ap, append_assoc, sym}
use Rattle.std.specs.Fmt.{decimal}
use Rattle.line_io.proofs.Gathering.{puts_more}
use Rattle.shadow_survey.specs.Counting.{kind_name}
use Rattle.shadow_survey.proofs.counts.put_count.Goals as goal

pub returns : goal.returns
returns g c =
    let number : c.as_slice.result.now ≡ decimal c.args.count = c.as_slice.ensures.value ∙ c.number_text.ensures in
    let name : c.as_bytes.result.now ≡ c.words.result.0.now = c.as_bytes.ensures.value in
    let what : c.as_bytes-2.result.now ≡ c.words.result.1.now = c.as_bytes-2.ensures.value in
    let line : c.as_bytes.result.now ++ (c.as_bytes-2.result.now ++ 10 ∷ []) ≡ kind_name c.args.kind ++ 10 ∷ [] =
    rw (name, what) (sym (append_assoc c.words.result.0.now c.words.result.1.now (10 ∷ []))
    ∙ ap (λ (t : List ℕ). t ++ 10 ∷ []) c.words.ensures) in
    let all = puts_more _ _ _ _ _ _ _ _ _ _ _ c.put.ensures.puts
    (puts_more _ _ _ _ _ _ _ _ _ _ _ c.put-2.ensures.puts
    (puts_more _ _ _ _ _ _ _ _ _ _ _ c.put-3.ensures.puts c.put_line.ensures.puts)) in
    record { puts = rw (sym line, sym number) all }
