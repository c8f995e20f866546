-- Where the bytes of a reference lie, under a placement of the RAM objects.
use Rattle.std.specs.Prelude.{ℕ, ◌+◌, ◌-◌, if◌then◌else◌, List, slice_index, Option, Some, None}
use Rattle.word86.specs.declared.width.Width.{Width}
use Rattle.word86.specs.Access.{Where, In, Screen}
use Rattle.word86.specs.Page.{page_begins}
use Rattle.word86.specs.Place.{bytes, covers, held}
use Rattle.plm_type.specs.Rest.{Anchor, InObject, OnScreen, Behind, There}

module _ (offsets sizes : List ℕ) where
  -- where an anchor lies, once its base is read
  abbrev pub anchored : Anchor → Option ℕ
  anchored (InObject k start size) = Some (slice_index offsets k + start)
  anchored (OnScreen page start size) = Some (page_begins page + start)
  anchored (Behind base) = None
  anchored (There address) = Some address

  -- the place of an access at an address: in the declared name's bytes, or for a based name in the one RAM object that holds them all
  abbrev pub placed : Width → Anchor → ℕ → Option Where
  placed width (InObject k start size) address =
      if covers (slice_index offsets k + start) size address (bytes width) then Some (In k (address - slice_index offsets k)) else None
  placed width (OnScreen page start size) address =
      if covers (page_begins page + start) size address (bytes width) then Some (Screen page (address - page_begins page)) else None
  placed width (Behind base) address = None
  placed width (There base) address = held 0 offsets sizes address (bytes width)
