-- The lines of a text, one after another.
use Rattle.std.proofs.Common.{◌≡◌, ◌∙◌, ℕ, zero, suc, ◌+◌, ◌-◌, ◌<◌, ◌≤◌, List, [], ◌∷◌, get_or, refl, ap, arith}
use Rattle.listing_map.specs.SourceListing.{lines_of}

-- the line that is wanted comes later
pub later_line : (rest after first : List ℕ) (wanted done : ℕ) → lines_of rest ≡ first ∷ lines_of after → done < wanted
    → get_or (lines_of rest) (wanted - done) [] ≡ get_or (lines_of after) (wanted - (done + 1)) []
later_line rest after first wanted done e lt =
    let more : wanted - done ≡ suc (wanted - (done + 1)) = omega (arith, lt) in
    ap (λ (ls : List (List ℕ)). get_or ls (wanted - done) []) e ∙ ap (λ (n : ℕ). get_or (first ∷ lines_of after) n []) more

-- it comes now
pub this_line : (rest after first : List ℕ) (wanted done : ℕ) → lines_of rest ≡ first ∷ lines_of after → wanted ≤ done
    → get_or (lines_of rest) (wanted - done) [] ≡ first
this_line rest after first wanted done e le =
    let here : wanted - done ≡ 0 = omega (arith, le) in
    ap (λ (ls : List (List ℕ)). get_or ls (wanted - done) []) e ∙ ap (λ (n : ℕ). get_or (first ∷ lines_of after) n []) here
