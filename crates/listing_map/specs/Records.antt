-- A ROM as a file of Intel HEX records, and what such a file says.
use Rattle.std.specs.Prelude.{ℕ, zero, suc, ◌+◌, ◌-◌, ◌*◌, ◌/◌, ◌%◌, ◌==◌, ◌&&◌, if◌then◌else◌, List, [], ◌∷◌, ◌++◌, length, take, drop, fold, codes, Option, Some, None, option_map, Result, Ok, Err}
use Rattle.std.specs.List.{flat_map}
use Rattle.hex.specs.Hex.{decode_of}
use Rattle.hex.specs.declared.error.FromHexError.{FromHexError}
use Rattle.listing_map.specs.Lines.{hex2, line_end}
use Rattle.listing_map.specs.SourceListing.{lines_of}

-- the sum of bytes
abbrev pub total : List ℕ → ℕ
total [] = 0
total (b ∷ bs) = b + total bs

-- ---- what a file says

pub record Record : Type 0 where
  pub kind : ℕ
  pub offset : ℕ
  pub bytes : List ℕ

-- how many bytes a record has, its offset, its kind, its bytes, and one more, which makes the sum of all a multiple of 256
abbrev pub record_of : List ℕ → Option Record
record_of (count ∷ high ∷ low ∷ kind ∷ rest) = if (length rest == count + 1) && (total (count ∷ high ∷ low ∷ kind ∷ rest) % 256 == 0)
    then Some (record { kind = kind; offset = high * 256 + low; bytes = take count rest }) else None
record_of short = None

abbrev pub record_in : Result (List ℕ) FromHexError → Option Record
record_in (Ok bytes) = record_of bytes
record_in (Err e) = None

-- a line is a colon and the digits of a record
abbrev pub record_on : List ℕ → Option Record
record_on [] = None
record_on (c ∷ digits) = if c == 58 then record_in (decode_of digits) else None

-- bytes, the first of them at this address
abbrev pub cells : ℕ → List ℕ → List (ℕ × ℕ)
cells address [] = []
cells address (b ∷ bs) = (address, b) ∷ cells (address + 1) bs

-- a record before others, which say something from each address on: kind 0 has bytes at an offset, kind 2 says from which paragraph of 16 bytes
-- on offsets count, and kind 1 is the last
abbrev pub say : ℕ → Option Record → (ℕ → Option (List (ℕ × ℕ))) → Option (List (ℕ × ℕ))
say from None others = None
say from (Some r) others = if r.kind == 0 then option_map (λ more. cells (from + r.offset) r.bytes ++ more) (others from)
    else (if r.kind == 2 then others (fold (λ word b. word * 256 + b) 0 r.bytes * 16) else (if r.kind == 1 then Some [] else None))

abbrev pub lines_say : List (List ℕ) → ℕ → Option (List (ℕ × ℕ))
lines_say [] from = None
lines_say (line ∷ lines) from = say from (record_on line) (lines_say lines)

-- the bytes that a file has, each with its address
abbrev pub said : List ℕ → Option (List (ℕ × ℕ))
said text = lines_say (lines_of text) 0

-- ---- the file of a ROM

abbrev pub check_of : ℕ → ℕ
check_of sum = (256 - sum % 256) % 256

abbrev pub record_front : List ℕ → List ℕ → List ℕ
record_front header bytes = (codes ":" ++ flat_map hex2 header) ++ flat_map hex2 bytes

abbrev pub header_of : ℕ → ℕ → ℕ → List ℕ
header_of count kind offset = count ∷ offset / 256 ∷ offset % 256 ∷ kind ∷ []

abbrev pub record_line : ℕ → ℕ → List ℕ → List ℕ
record_line kind offset bytes = record_front (header_of (length bytes) kind offset) bytes
    ++ hex2 (check_of (total (header_of (length bytes) kind offset) + total bytes)) ++ line_end

-- so many records of 16 bytes, the last one of what is left; the last byte of all has the offset 65535
abbrev pub data_lines : ℕ → List ℕ → List ℕ
data_lines zero bytes = []
data_lines (suc more) bytes = record_line 0 (65536 - length bytes) (take 16 bytes) ++ data_lines more (drop 16 bytes)

-- offsets count from 0F0000H on
abbrev pub hex_text : List ℕ → List ℕ
hex_text rom = (record_line 2 0 (240 ∷ 0 ∷ []) ++ data_lines ((length rom + 15) / 16) rom) ++ record_line 1 0 []
