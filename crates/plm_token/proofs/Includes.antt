-- The runs of a control line.
use Rattle.std.proofs.Common.{◌≡◌, ◌∙◌, ℕ, suc, ◌+◌, List, [], ◌∷◌, Bool, true, false, cond, not, take, drop, length, refl, ap, sym, arith, bytes_eq, codes}
use Rattle.std.proofs.lemmas.List.{nil_from_length}
use Rattle.std.specs.List.{prefix_len, slice_split, onto_first}
use Rattle.plm_token.specs.Characters.{is_name_character}
use Rattle.plm_token.specs.Names.{normal}
use Rattle.plm_token.specs.Pieces.{holds_include}
use Rattle.plm_token.proofs.Runs.{one-add}

abbrev parts : List ℕ → List (List ℕ)
parts line = slice_split (λ b. not (is_name_character b)) line

abbrev parts_behind : List ℕ → List (List ℕ)
parts_behind [] = []
parts_behind (b ∷ bs) = parts bs

more : (b : ℕ) (bs : List ℕ) (n : ℕ) → parts bs ≡ take n bs ∷ parts_behind (drop n bs) → (p : Bool)
    → cond (not p) ([] ∷ parts bs) (onto_first b (parts bs)) ≡ take (cond p (1 + n) 0) (b ∷ bs) ∷ parts_behind (drop (cond p (1 + n) 0) (b ∷ bs))
more b bs n behind true = rw (one-add n, behind) refl
more b bs n behind false = refl

-- the first run, and what stands after the character that ends it
first_part : (line : List ℕ) → parts line ≡ take (prefix_len is_name_character line) line ∷ parts_behind (drop (prefix_len is_name_character line) line)
first_part [] = refl
first_part (b ∷ bs) = more b bs (prefix_len is_name_character bs) (first_part bs) (is_name_character b)

abbrev is_include : List ℕ → Bool
is_include run = bytes_eq (normal run) (codes "INCLUDE")

pub include_here : (whole line run : List ℕ) (n : ℕ) (t : Bool) → holds_include whole ≡ holds_include line → run ≡ take n line → n ≡ prefix_len is_name_character line
    → t ≡ is_include run → t ≡ true → true ≡ holds_include whole
include_here whole line run n t same e m u v =
    let here : is_include (take (prefix_len is_name_character line) line) ≡ true = ap is_include (ap (λ (k : ℕ). take k line) (sym m) ∙ sym e) ∙ sym u ∙ v in
    rw (same, first_part line, here) refl

not_here : (line run : List ℕ) (n : ℕ) (t : Bool) → run ≡ take n line → n ≡ prefix_len is_name_character line → t ≡ is_include run → t ≡ false
    → is_include (take (prefix_len is_name_character line) line) ≡ false
not_here line run n t e m u v = ap is_include (ap (λ (k : ℕ). take k line) (sym m) ∙ sym e) ∙ sym u ∙ v

pub include_behind : (whole line run behind next : List ℕ) (n b : ℕ) (t : Bool) → holds_include whole ≡ holds_include line → run ≡ take n line → n ≡ prefix_len is_name_character line
    → t ≡ is_include run → t ≡ false → behind ≡ drop n line → behind ≡ b ∷ next → holds_include whole ≡ holds_include next
include_behind whole line run behind next n b t same e m u v d f =
    let g : drop (prefix_len is_name_character line) line ≡ b ∷ next = ap (λ (k : ℕ). drop k line) (sym m) ∙ sym d ∙ f in
    rw (same, first_part line, not_here line run n t e m u v, g) refl

pub include_nowhere : (whole line run behind : List ℕ) (n : ℕ) (t : Bool) → holds_include whole ≡ holds_include line → run ≡ take n line → n ≡ prefix_len is_name_character line
    → t ≡ is_include run → t ≡ false → behind ≡ drop n line → length behind ≡ 0 → false ≡ holds_include whole
include_nowhere whole line run behind n t same e m u v d f =
    let g : drop (prefix_len is_name_character line) line ≡ [] = ap (λ (k : ℕ). drop k line) (sym m) ∙ sym d ∙ nil_from_length behind f in
    rw (same, first_part line, not_here line run n t e m u v, g) refl
