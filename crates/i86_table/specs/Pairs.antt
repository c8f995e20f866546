-- The pair of two registers whose order says nothing.
use Rattle.std.specs.Prelude.{◌≡◌, ◌≤◌, ◌<◌, ◌⊎◌, true, false, nat_le}
use Rattle.std.proofs.Common.{inl, inr}
use Rattle.std.proofs.lemmas.Bool.Decides.{leb_tells}
use Rattle.std.proofs.Math.Nat.{le_of_lt}
use Rattle.i86_table.specs.declared.registers.Register8.{Register8}
use Rattle.i86_table.specs.declared.registers.Register16.{Register16}
use Rattle.i86_table.specs.declared.pairs.BytePair.{BytePair}
use Rattle.i86_table.specs.declared.pairs.WordPair.{WordPair}
use Rattle.i86_table.specs.Numbers.{byte_register_code, word_register_code}

abbrev pub byte_pair_by : (a b : Register8) → ((nat_le (byte_register_code a) (byte_register_code b) ≡ true) × (byte_register_code a ≤ byte_register_code b)) ⊎ ((nat_le (byte_register_code a) (byte_register_code b) ≡ false) × (byte_register_code b < byte_register_code a)) → BytePair
byte_pair_by a b (inl in_order) = record { first = a; second = b; ordered = in_order.1 }
byte_pair_by a b (inr turned) = record { first = b; second = a; ordered = le_of_lt turned.1 }

-- the one of the lower number first
unfoldable pub byte_pair : Register8 → Register8 → BytePair
byte_pair a b = byte_pair_by a b (leb_tells (byte_register_code a) (byte_register_code b))

abbrev pub word_pair_by : (a b : Register16) → ((nat_le (word_register_code a) (word_register_code b) ≡ true) × (word_register_code a ≤ word_register_code b)) ⊎ ((nat_le (word_register_code a) (word_register_code b) ≡ false) × (word_register_code b < word_register_code a)) → WordPair
word_pair_by a b (inl in_order) = record { first = a; second = b; ordered = in_order.1 }
word_pair_by a b (inr turned) = record { first = b; second = a; ordered = le_of_lt turned.1 }

-- the one of the lower number first
unfoldable pub word_pair : Register16 → Register16 → WordPair
word_pair a b = word_pair_by a b (leb_tells (word_register_code a) (word_register_code b))
