-- What the names of a build or a run lead to, and where one of its files would be lost by another.
use Rattle.std.specs.Prelude.{ℕ, ◌≡◌, ◌<◌, ◌≤◌, nat_le, Bool, true, false, ◌==◌, ◌&&◌, List, length, slice_index_or}
use Rattle.std.specs.Str.{bytes_eq}
use Rattle.plm86.specs.declared.destination.Inode.{Inode}
use Rattle.plm86.specs.declared.destination.Destination.{Destination}
use Rattle.plm86.specs.declared.destination.Destination.TheVariants.{File, New, Opened, Stream, Passing}

abbrev pub is_inode : Inode → Inode → Bool
is_inode one two = (one.device == two.device) && (one.number == two.number)

-- An output to the first name loses what another output puts at the second one, or what is read there where the second is a source. Both lead
-- to one file that is there and whose bytes would be replaced, or both would be made under one name in one folder. To what is open already
-- several outputs may go, one after the other; but none of them where a source is read. The file of a standard stream is lost by what
-- would take its place, and by nothing that is put at its end.
abbrev pub clashes : (source : Bool) → Destination → Destination → Bool
clashes source (File one) (File two) = is_inode one two
clashes source (File one) (New folder name) = false
clashes source (File one) (Opened two) = is_inode one two
clashes source (File one) (Stream two) = is_inode one two
clashes source (File one) Passing = false
clashes source (New folder name) (File two) = false
clashes source (New folder name) (New other_folder other_name) = is_inode folder other_folder && bytes_eq name.now other_name.now
clashes source (New folder name) (Opened two) = false
clashes source (New folder name) (Stream two) = false
clashes source (New folder name) Passing = false
clashes source (Opened one) (File two) = is_inode one two
clashes source (Opened one) (New folder name) = false
clashes source (Opened one) (Opened two) = source && is_inode one two
clashes source (Opened one) (Stream two) = false
clashes source (Opened one) Passing = false
clashes source (Stream one) (File two) = is_inode one two
clashes source (Stream one) (New folder name) = false
clashes source (Stream one) (Opened two) = false
clashes source (Stream one) (Stream two) = false
clashes source (Stream one) Passing = false
clashes source Passing (File two) = false
clashes source Passing (New folder name) = false
clashes source Passing (Opened two) = false
clashes source Passing (Stream two) = false
clashes source Passing Passing = false

-- the file at `m` stands after that at `k`, and one of them would be lost by an output to that at `k`; it is a source where it stands after
-- the first `written`
abbrev pub ClashesAt : List Destination → (written k m : ℕ) → Type 0
ClashesAt files written k m =
    (k < m) × (m < length files) × (clashes (nat_le written m) (slice_index_or files k Passing) (slice_index_or files m Passing) ≡ true)

-- so that the one at `k` is among the first `written`, those that are written
abbrev pub IsClash : List Destination → (written k m : ℕ) → Type 0
IsClash files written k m = (k < written) × ClashesAt files written k m

-- no clash is of an earlier file, nor one of the same file with an earlier one
abbrev pub IsFirstClash : List Destination → ℕ → ℕ × ℕ → Type 0
IsFirstClash files written pair = IsClash files written pair.0 pair.1
    × ((i j : ℕ) → IsClash files written i j → (pair.0 ≤ i) × (i ≡ pair.0 → pair.1 ≤ j))

-- none of the first `written` files takes the place of the file of a standard stream after it
abbrev pub KeepsStreams : List Destination → (written : ℕ) → Type 0
KeepsStreams files written = (k m : ℕ) (one two : Inode) → k < written → k < m → m < length files
    → slice_index_or files k Passing ≡ File one → slice_index_or files m Passing ≡ Stream two → is_inode one two ≡ false
