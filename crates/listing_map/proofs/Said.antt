-- What the records of a ROM say.
use Rattle.std.proofs.Common.{◌≡◌, ◌∙◌, ℕ, zero, suc, ◌+◌, ◌-◌, ◌*◌, ◌/◌, ◌%◌, ◌<◌, ◌≤◌, Bool, true, false, ◌&&◌, List, [], ◌∷◌, ◌++◌, length, take, drop, get_or, Option, Some, None, Result, Ok, Err, refl, sym, ap, ap₂, subst, arith, append-nil, append_assoc}
use Rattle.std.specs.Prelude.{◌==◌, codes, fold, min, option_map, slice_index, if◌then◌else◌}
use Rattle.std.specs.List.{All, flat_map}
use Rattle.std.proofs.lemmas.Bool.{eq-eqb, ne_eqb}
use Rattle.std.proofs.lemmas.Grind.{flat_map-append}
use Rattle.std.proofs.lemmas.List.{at_drop_more, length-append, length-drop, length-take, take-append-drop, take_at}
use Rattle.std.proofs.lemmas.List.Elements.{All-nil, All-cons, All-head, All-tail}
use Rattle.hex.specs.Hex.{IsBytes, decode_of, decode_pairs, digit_or_error, hex_digit_value, pair_value, value_at}
use Rattle.hex.proofs.HexLemmas.{decode_of-even}
use Rattle.hex.proofs.Pairs.{cons_byte, decode_pairs-ok_pair}
use Rattle.listing_map.specs.Lines.{hex_digit, hex2, line_end}
use Rattle.listing_map.specs.SourceListing.{lines_of}
use Rattle.listing_map.specs.Records.{Record, cells, check_of, data_lines, header_of, hex_text, lines_say, record_front, record_in, record_line, record_of, record_on, said, say, total}

-- ---- digits

digit_reads : (d : ℕ) → d < 16 → hex_digit_value (hex_digit d) ≡ Some d
digit_reads d lt = grind (arith, lt)

pair_reads : (b i : ℕ) → b < 256 → pair_value (hex_digit (b / 16 % 16)) (hex_digit (b % 16)) i ≡ Ok b
pair_reads b i lt =
    let high : b / 16 % 16 < 16 = omega arith in
    let low : b % 16 < 16 = omega arith in
    let ha : value_at (hex_digit (b / 16 % 16)) i ≡ Ok (b / 16 % 16) = ap (digit_or_error (hex_digit (b / 16 % 16)) i) (digit_reads (b / 16 % 16) high) in
    let hb : value_at (hex_digit (b % 16)) (i + 1) ≡ Ok (b % 16) = ap (digit_or_error (hex_digit (b % 16)) (i + 1)) (digit_reads (b % 16) low) in
    let pair : pair_value (hex_digit (b / 16 % 16)) (hex_digit (b % 16)) i ≡ Ok (b / 16 % 16 * 16 + b % 16) = rw (ha, hb) refl in
    let whole : b / 16 % 16 * 16 + b % 16 ≡ b = omega (arith, lt) in
    pair ∙ ap (λ (v : ℕ). Ok v) whole

digits_read : (i : ℕ) (bytes : List ℕ) → IsBytes bytes → decode_pairs i (flat_map hex2 bytes) ≡ Ok bytes
unfolding decode_pairs
digits_read i [] h = refl
digits_read i (b ∷ bs) h =
    decode_pairs-ok_pair i (hex_digit (b / 16 % 16)) (hex_digit (b % 16)) b (flat_map hex2 bs) (pair_reads b i (h 0))
    ∙ ap (cons_byte b) (digits_read (i + 2) bs (λ k. h (suc k)))

length_digits : (bytes : List ℕ) → length (flat_map hex2 bytes) ≡ 2 * length bytes
length_digits [] = refl
length_digits (b ∷ bs) = let e = length_digits bs in omega (arith, e)

digits_decode : (bytes : List ℕ) → IsBytes bytes → decode_of (flat_map hex2 bytes) ≡ Ok bytes
digits_decode bytes h =
    let len = length_digits bytes in
    decode_of-even (flat_map hex2 bytes) (omega (arith, len)) ∙ digits_read 0 bytes h

-- ---- lines

-- neither a line feed nor a carriage return
abbrev Plain : ℕ → Type 0
Plain b = ((b == 10) ≡ false) × ((b == 13) ≡ false)

digit_high : (d : ℕ) → 48 ≤ hex_digit d
digit_high d = grind arith

plain_digit : (d : ℕ) → Plain (hex_digit d)
plain_digit d =
    let high = digit_high d in
    (ne_eqb (hex_digit d) 10 (λ e. omega (arith, high, e)), ne_eqb (hex_digit d) 13 (λ e. omega (arith, high, e)))

plain_digits : (bytes : List ℕ) → All Plain (flat_map hex2 bytes)
plain_digits [] = All-nil Plain
plain_digits (b ∷ bs) =
    All-cons Plain (hex_digit (b / 16 % 16)) (hex_digit (b % 16) ∷ flat_map hex2 bs) (plain_digit (b / 16 % 16))
    (All-cons Plain (hex_digit (b % 16)) (flat_map hex2 bs) (plain_digit (b % 16)) (plain_digits bs))

plain_line : (s rest : List ℕ) → All Plain s → lines_of (s ++ 10 ∷ rest) ≡ s ∷ lines_of rest
plain_line [] rest h = refl
plain_line (b ∷ s) rest h =
    let at : Plain b = All-head Plain b s h in
    rw (at.0, at.1, plain_line s rest (All-tail Plain b s h)) refl

-- all bytes of a record
abbrev whole_of : ℕ → ℕ → List ℕ → List ℕ
whole_of kind offset bytes = header_of (length bytes) kind offset ++ (bytes ++ check_of (total (header_of (length bytes) kind offset) + total bytes) ∷ [])

regroup : (a b c d : List ℕ) → ((a ++ b) ++ c) ++ d ≡ a ++ (b ++ (c ++ d))
regroup a b c d = simp append_assoc refl

end_joined : (front digits rest : List ℕ) → ((front ++ digits) ++ line_end) ++ rest ≡ (front ++ digits) ++ (10 ∷ rest)
end_joined front digits rest = append_assoc (front ++ digits) line_end rest

-- the digits of a record behind its colon
front_joined : (header bytes : List ℕ) (check : ℕ) → record_front header bytes ++ hex2 check ≡ 58 ∷ flat_map hex2 (header ++ (bytes ++ check ∷ []))
front_joined header bytes check =
    let parts : flat_map hex2 (header ++ (bytes ++ check ∷ [])) ≡ flat_map hex2 header ++ (flat_map hex2 bytes ++ hex2 check) =
    flat_map-append hex2 header (bytes ++ check ∷ []) ∙ ap (λ (l : List ℕ). flat_map hex2 header ++ l) (flat_map-append hex2 bytes (check ∷ [])) in
    regroup (codes ":") (flat_map hex2 header) (flat_map hex2 bytes) (hex2 check) ∙ ap (λ (l : List ℕ). 58 ∷ l) (sym parts)

line_joined : (header bytes rest : List ℕ) (check : ℕ) → ((record_front header bytes ++ hex2 check) ++ line_end) ++ rest ≡ (58 ∷ flat_map hex2 (header ++ (bytes ++ check ∷ []))) ++ (10 ∷ rest)
line_joined header bytes rest check =
    end_joined (record_front header bytes) (hex2 check) rest ∙ ap (λ (l : List ℕ). l ++ (10 ∷ rest)) (front_joined header bytes check)

line_is : (kind offset : ℕ) (bytes rest : List ℕ) → record_line kind offset bytes ++ rest ≡ (58 ∷ flat_map hex2 (whole_of kind offset bytes)) ++ 10 ∷ rest
line_is kind offset bytes rest =
    let header = header_of (length bytes) kind offset in
    line_joined header bytes rest (check_of (total header + total bytes))

line_read : (kind offset : ℕ) (bytes rest : List ℕ) → lines_of (record_line kind offset bytes ++ rest) ≡ (58 ∷ flat_map hex2 (whole_of kind offset bytes)) ∷ lines_of rest
line_read kind offset bytes rest =
    let digits = flat_map hex2 (whole_of kind offset bytes) in
    ap lines_of (line_is kind offset bytes rest) ∙ plain_line (58 ∷ digits) rest (All-cons Plain 58 digits (refl, refl) (plain_digits (whole_of kind offset bytes)))

-- ---- records

bytes_cons : (b : ℕ) (bs : List ℕ) → b < 256 → IsBytes bs → IsBytes (b ∷ bs)
bytes_cons b bs h hs zero = h
bytes_cons b bs h hs (suc i) = hs i

bytes_nil : IsBytes []
bytes_nil = λ i. omega arith

bytes_last : (bs : List ℕ) (c : ℕ) → IsBytes bs → c < 256 → IsBytes (bs ++ c ∷ [])
bytes_last [] c h lt = bytes_cons c [] lt bytes_nil
bytes_last (b ∷ bs) c h lt = bytes_cons b (bs ++ c ∷ []) (h 0) (bytes_last bs c (λ k. h (suc k)) lt)

bytes_take : (n : ℕ) (bs : List ℕ) → IsBytes bs → IsBytes (take n bs)
bytes_take zero bs h = bytes_nil
bytes_take (suc n) [] h = bytes_nil
bytes_take (suc n) (b ∷ bs) h = bytes_cons b (take n bs) (h 0) (bytes_take n bs (λ k. h (suc k)))

bytes_drop : (n : ℕ) (bs : List ℕ) → IsBytes bs → IsBytes (drop n bs)
bytes_drop zero bs h = h
bytes_drop (suc n) [] h = bytes_nil
bytes_drop (suc n) (b ∷ bs) h = bytes_drop n bs (λ k. h (suc k))

-- the bytes of a record whose parts are small
whole_bytes : (kind offset : ℕ) (bytes : List ℕ) → kind < 256 → offset < 65536 → length bytes < 256 → IsBytes bytes → IsBytes (whole_of kind offset bytes)
whole_bytes kind offset bytes small near few h =
    let check = check_of (total (header_of (length bytes) kind offset) + total bytes) in
    let rest = bytes ++ check ∷ [] in
    bytes_cons (length bytes) (offset / 256 ∷ offset % 256 ∷ kind ∷ rest) few
    (bytes_cons (offset / 256) (offset % 256 ∷ kind ∷ rest) (omega (arith, near))
    (bytes_cons (offset % 256) (kind ∷ rest) (omega arith) (bytes_cons kind rest small (bytes_last bytes check h (omega arith)))))

total_last : (bs : List ℕ) (c : ℕ) → total (bs ++ c ∷ []) ≡ total bs + c
total_last [] c = omega arith
total_last (b ∷ bs) c = let e = total_last bs c in omega (arith, e)

checks : (sum : ℕ) → (sum + check_of sum) % 256 ≡ 0
checks sum = omega arith

same_eqb : (a b : ℕ) → a ≡ b → (a == b) ≡ true
same_eqb a b e = eq-eqb a b e

chosen : (t u : Bool) (x : Option Record) → t ≡ true → u ≡ true → (if t && u then x else None) ≡ x
chosen t u x e f = rw (e, f) refl

record_whole : (kind offset : ℕ) (bytes : List ℕ) → record_of (whole_of kind offset bytes) ≡ Some (record { kind = kind; offset = offset; bytes = bytes })
record_whole kind offset bytes =
    let header = header_of (length bytes) kind offset in
    let check = check_of (total header + total bytes) in
    let rest = bytes ++ check ∷ [] in
    let long : length rest ≡ length bytes + 1 = length-append bytes (check ∷ []) in
    let last = total_last bytes check in
    let zero_sum : total (length bytes ∷ offset / 256 ∷ offset % 256 ∷ kind ∷ rest) % 256 ≡ 0 =
    ap (λ (n : ℕ). n % 256) (omega (arith, last)) ∙ checks (total header + total bytes) in
    let back : offset / 256 * 256 + offset % 256 ≡ offset = omega arith in
    chosen (length rest == length bytes + 1) (total (length bytes ∷ offset / 256 ∷ offset % 256 ∷ kind ∷ rest) % 256 == 0)
    (Some (record { kind = kind; offset = offset / 256 * 256 + offset % 256; bytes = take (length bytes) rest }))
    (same_eqb (length rest) (length bytes + 1) long) (same_eqb _ 0 zero_sum)
    ∙ ap₂ (λ (o : ℕ) (bs : List ℕ). Some (record { kind = kind; offset = o; bytes = bs })) back (take_at bytes (check ∷ []) (length bytes) refl)

record_read : (kind offset : ℕ) (bytes : List ℕ) → kind < 256 → offset < 65536 → length bytes < 256 → IsBytes bytes
    → record_on (58 ∷ flat_map hex2 (whole_of kind offset bytes)) ≡ Some (record { kind = kind; offset = offset; bytes = bytes })
record_read kind offset bytes small near few h =
    ap record_in (digits_decode (whole_of kind offset bytes) (whole_bytes kind offset bytes small near few h)) ∙ record_whole kind offset bytes

-- ---- what is said

cells_append : (a : ℕ) (xs ys : List ℕ) → cells a (xs ++ ys) ≡ cells a xs ++ cells (a + length xs) ys
cells_append a [] ys = let e : a ≡ a + 0 = omega arith in ap (λ (n : ℕ). cells n ys) e
cells_append a (x ∷ xs) ys =
    let e : a + 1 + length xs ≡ a + length (x ∷ xs) = omega arith in
    ap (λ (l : List (ℕ × ℕ)). (a, x) ∷ l) (cells_append (a + 1) xs ys ∙ ap (λ (n : ℕ). cells (a + 1) xs ++ cells n ys) e)

-- what a record's line says before others
record_says : (kind offset : ℕ) (bytes rest : List ℕ) (from : ℕ) → kind < 256 → offset < 65536 → length bytes < 256 → IsBytes bytes
    → lines_say (lines_of (record_line kind offset bytes ++ rest)) from ≡ say from (Some (record { kind = kind; offset = offset; bytes = bytes })) (lines_say (lines_of rest))
record_says kind offset bytes rest from small near few h =
    ap (λ (ls : List (List ℕ)). lines_say ls from) (line_read kind offset bytes rest)
    ∙ ap (λ (r : Option Record). say from r (lines_say (lines_of rest))) (record_read kind offset bytes small near few h)

end_says : (from : ℕ) → lines_say (lines_of (record_line 1 0 [])) from ≡ Some []
end_says from =
    ap (λ (t : List ℕ). lines_say (lines_of t) from) (sym (append-nil (record_line 1 0 [])))
    ∙ record_says 1 0 [] [] from (omega arith) (omega arith) (omega arith) bytes_nil

joined : (bytes : List ℕ) → length bytes ≤ 65536
    → cells (983040 + (65536 - length bytes)) (take 16 bytes) ++ cells (1048576 - length (drop 16 bytes)) (drop 16 bytes) ≡ cells (1048576 - length bytes) bytes
joined bytes fits =
    let t = length-take 16 bytes in
    let d = length-drop 16 bytes in
    let first : 983040 + (65536 - length bytes) ≡ 1048576 - length bytes = omega (arith, fits) in
    let second : 1048576 - length (drop 16 bytes) ≡ 1048576 - length bytes + length (take 16 bytes) = omega (arith, t, d, fits) in
    ap₂ (λ (a b : ℕ). cells a (take 16 bytes) ++ cells b (drop 16 bytes)) first second
    ∙ sym (cells_append (1048576 - length bytes) (take 16 bytes) (drop 16 bytes))
    ∙ ap (cells (1048576 - length bytes)) (take-append-drop 16 bytes)

data_say : (k : ℕ) (bytes : List ℕ) → k ≡ (length bytes + 15) / 16 → length bytes ≤ 65536 → IsBytes bytes
    → lines_say (lines_of (data_lines k bytes ++ record_line 1 0 [])) 983040 ≡ Some (cells (1048576 - length bytes) bytes)
data_say zero [] e fits h = end_says 983040
data_say zero (b ∷ bs) e fits h = absurd (omega (arith, e))
data_say (suc k) bytes e fits h =
    let t = length-take 16 bytes in
    let d = length-drop 16 bytes in
    let rest = data_lines k (drop 16 bytes) ++ record_line 1 0 [] in
    ap (λ (l : List ℕ). lines_say (lines_of l) 983040) (append_assoc (record_line 0 (65536 - length bytes) (take 16 bytes)) (data_lines k (drop 16 bytes)) (record_line 1 0 []))
    ∙ record_says 0 (65536 - length bytes) (take 16 bytes) rest 983040 (omega arith) (omega (arith, e)) (omega (arith, t)) (bytes_take 16 bytes h)
    ∙ ap (option_map (λ more. cells (983040 + (65536 - length bytes)) (take 16 bytes) ++ more)) (data_say k (drop 16 bytes) (omega (arith, e, d)) (omega (arith, d, fits)) (bytes_drop 16 bytes h))
    ∙ ap (λ (cs : List (ℕ × ℕ)). Some cs) (joined bytes fits)

pub rom_says : (rom : List ℕ) → length rom ≤ 65536 → IsBytes rom → said (hex_text rom) ≡ Some (cells (1048576 - length rom) rom)
rom_says rom fits h =
    let segment : List ℕ = 240 ∷ 0 ∷ [] in
    let lines = data_lines ((length rom + 15) / 16) rom in
    ap (λ (l : List ℕ). lines_say (lines_of l) 0) (append_assoc (record_line 2 0 segment) lines (record_line 1 0 []))
    ∙ record_says 2 0 segment (lines ++ record_line 1 0 []) 0 (omega arith) (omega arith) (omega arith) (bytes_cons 240 (0 ∷ []) (omega arith) (bytes_cons 0 [] (omega arith) bytes_nil))
    ∙ data_say ((length rom + 15) / 16) rom refl fits h

-- ---- writing

-- the records from a place on
data_from : (bytes : List ℕ) → 0 < length bytes
    → data_lines ((length bytes + 15) / 16) bytes ≡ record_line 0 (65536 - length bytes) (take 16 bytes) ++ data_lines ((length (drop 16 bytes) + 15) / 16) (drop 16 bytes)
data_from bytes some =
    let d = length-drop 16 bytes in
    let more : (length bytes + 15) / 16 ≡ suc ((length (drop 16 bytes) + 15) / 16) = omega (arith, d, some) in
    ap (λ (k : ℕ). data_lines k bytes) more

pub data_next : (bytes first after : List ℕ) (offset : ℕ) → 0 < length bytes → offset ≡ 65536 - length bytes → first ≡ take 16 bytes → after ≡ drop 16 bytes
    → data_lines ((length bytes + 15) / 16) bytes ≡ record_line 0 offset first ++ data_lines ((length after + 15) / 16) after
data_next bytes first after offset some near is left =
    data_from bytes some
    ∙ ap₂ (λ (t m : List ℕ). t ++ m) (ap₂ (λ (o : ℕ) (bs : List ℕ). record_line 0 o bs) (sym near) (sym is)) (ap (λ (bs : List ℕ). data_lines ((length bs + 15) / 16) bs) (sym left))

pub total_from : (bytes : List ℕ) (i d : ℕ) → i < length bytes → total (drop i bytes) ≡ get_or bytes i d + total (drop (i + 1) bytes)
total_from bytes i d lt = at_drop_more total bytes i d lt

pub sum_next : (sum b more all : ℕ) → (sum + (b + more)) % 256 ≡ all % 256 → ((sum + b) % 256 + more) % 256 ≡ all % 256
sum_next sum b more all e = omega (arith, e)
