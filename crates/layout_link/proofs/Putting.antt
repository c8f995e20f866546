-- Bytes that are put one word after another.
use Rattle.std.proofs.Common.{◌≡◌, ℕ, ◌+◌, ◌*◌, ◌<◌, ◌≤◌, List, [], ◌∷◌, ◌++◌, length, get_or, drop, refl, sym, ap, ◌∙◌, arith, append_assoc, append-nil}
use Rattle.layout_link.specs.declared.tasks.Task.{Task}
use Rattle.layout_link.specs.declared.tasks.Task.TheVariants as tasks
use Rattle.layout_link.specs.Initial.{puts}

one_word : (to : ℕ) (rest : List ℕ) → 2 ≤ length rest → puts to rest ≡ tasks.Word to (get_or rest 0 0 + 256 * get_or rest 1 0) ∷ puts (to + 2) (drop 2 rest)
one_word to [] le = absurd (omega arith)
one_word to (a ∷ []) le = absurd (omega arith)
one_word to (a ∷ b ∷ rest) le = refl

pub word_put : (all now after : List Task) (to : ℕ) (rest others : List ℕ) → 2 ≤ length rest → others ≡ drop 2 rest → all ≡ now ++ puts to rest
    → after ≡ now ++ tasks.Word to (get_or rest 0 0 + 256 * get_or rest 1 0) ∷ [] → all ≡ after ++ puts (to + 2) others
word_put all now after to rest others le o e f =
    let w = tasks.Word to (get_or rest 0 0 + 256 * get_or rest 1 0) in
    e ∙ ap (λ l. now ++ l) (one_word to rest le) ∙ sym (append_assoc now (w ∷ []) (puts (to + 2) (drop 2 rest)))
    ∙ ap (λ l. l ++ puts (to + 2) (drop 2 rest)) (sym f) ∙ ap (λ l. after ++ puts (to + 2) l) (sym o)

pub byte_put : (all now after : List Task) (to : ℕ) (rest : List ℕ) → length rest < 2 → 0 < length rest → all ≡ now ++ puts to rest → after ≡ now ++ tasks.Byte to (get_or rest 0 0) ∷ [] → after ≡ all
byte_put all now after to [] lt some e f = absurd (omega arith)
byte_put all now after to (a ∷ []) lt some e f = f ∙ sym e
byte_put all now after to (a ∷ b ∷ rest) lt some e f = absurd (omega arith)

pub nothing_put : (all now : List Task) (to : ℕ) (rest : List ℕ) → length rest ≡ 0 → all ≡ now ++ puts to rest → now ≡ all
nothing_put all now to [] z e = sym (e ∙ append-nil now)
nothing_put all now to (a ∷ rest) z e = absurd (omega arith)
