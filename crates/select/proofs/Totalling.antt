-- How many bytes all parts of a program have at most: each procedure stands in one section.
use Rattle.std.proofs.Common.{◌≡◌, ℕ, zero, suc, ◌+◌, ◌≤◌, Bool, true, false, List, [], ◌∷◌, ◌++◌, length, refl, ap, arith}
use Rattle.std.specs.Prelude.{nat_eq, nat_lt, cond}
use Rattle.icode.specs.declared.code.Procedure as declared
use Rattle.icode.specs.declared.code.Routine.{Routine}
use Rattle.icode.specs.declared.code.Routine.TheVariants.{Main, Procedure, Unserved}
use Rattle.icode.specs.declared.code.Code.{Code}
use Rattle.select.specs.Selection.{procedures_in, sections_before, routines}
use Rattle.select.specs.Room.{room_of, room_for, room_below, ProgramsHaveRoom}
use Rattle.select.proofs.Rooming.{have_room}

-- a number is below the next one, if it is below this one or is it
next_below : (a m x : ℕ) → cond (nat_lt a (suc m)) x 0 ≡ cond (nat_lt a m) x 0 + cond (nat_eq a m) x 0
next_below a m x = grind arith

module _ (c : Code) where
  for-append : (rs ss : List Routine) → room_for c (rs ++ ss) ≡ room_for c rs + room_for c ss
  for-append [] ss = omega arith
  for-append (r ∷ rs) ss = omega (arith, for-append rs ss)

  for_cond : (b : Bool) (r : Routine) (rs : List Routine) → room_for c (cond b (r ∷ rs) rs) ≡ cond b (room_of c r) 0 + room_for c rs
  for_cond true r rs = refl
  for_cond false r rs = omega arith

  -- the procedures of modules below this one
  abbrev under : (m j : ℕ) → List declared.Procedure → ℕ
  under m j [] = 0
  under m j (p ∷ ps) = cond (nat_lt p.module m) (room_of c (Procedure j)) 0 + under m (j + 1) ps

  under_next : (m j : ℕ) (ps : List declared.Procedure) → under (suc m) j ps ≡ under m j ps + room_for c (procedures_in m j ps)
  under_next m j [] = omega arith
  under_next m j (p ∷ ps) =
      omega (arith, next_below p.module m (room_of c (Procedure j)), for_cond (nat_eq p.module m) (Procedure j) (procedures_in m (j + 1) ps), under_next m (j + 1) ps)

  under_none : (j : ℕ) (ps : List declared.Procedure) → under 0 j ps ≡ 0
  under_none j [] = refl
  under_none j (p ∷ ps) = omega (arith, none p.module (room_of c (Procedure j)), under_none (j + 1) ps)
    where
      none : (a x : ℕ) → cond (nat_lt a 0) x 0 ≡ 0
      none a x = grind arith

  some_or_none : (b : Bool) (x : ℕ) → cond b x 0 ≤ x
  some_or_none true x = omega arith
  some_or_none false x = omega arith

  under_few : (m j : ℕ) (ps : List declared.Procedure) → room_below c j + under m j ps ≤ room_below c (j + length ps)
  under_few m j [] = let e : j + 0 ≡ j = omega arith in omega (arith, ap (room_below c) e)
  under_few m j (p ∷ ps) =
      let e : j + 1 ≡ suc j = omega arith in
      let f : j + suc (length ps) ≡ j + 1 + length ps = omega arith in
      omega (arith, ap (room_below c) e, ap (room_below c) f, some_or_none (nat_lt p.module m) (room_of c (Procedure j)), under_few m (j + 1) ps)

  for_main : (m : ℕ) → room_for c (cond (nat_eq c.main_module m) (Main ∷ []) []) ≡ cond (nat_eq c.main_module m) (room_of c Main) 0
  for_main m = omega (arith, for_cond (nat_eq c.main_module m) Main [])

  sections_room : (m : ℕ) → room_for c (sections_before c m) ≡ under m 0 c.procedures.items + cond (nat_lt c.main_module m) (room_of c Main) 0
  sections_room zero = omega (arith, under_none 0 c.procedures.items, none c.main_module (room_of c Main))
    where
      none : (a x : ℕ) → cond (nat_lt a 0) x 0 ≡ 0
      none a x = grind arith
  sections_room (suc m) =
      let ps = procedures_in m 0 c.procedures.items in
      let main = cond (nat_eq c.main_module m) (Main ∷ []) [] in
      omega (arith, for-append (sections_before c m) (ps ++ main), for-append ps main, for_main m, under_next m 0 c.procedures.items, next_below c.main_module m (room_of c Main), sections_room m)

  routines_room : room_for c (routines c) ≤ room_of c Main + room_below c (length c.procedures.items) + 11
  routines_room =
      let e : 0 + length c.procedures.items ≡ length c.procedures.items = omega arith in
      omega (arith, for-append (sections_before c c.sections) (Unserved ∷ []), sections_room c.sections, some_or_none (nat_lt c.main_module c.sections) (room_of c Main), under_few c.sections 0 c.procedures.items, ap (room_below c) e)

pub programs_fit : ProgramsHaveRoom
programs_fit c parts are = omega (arith, (have_room c are.saves 0).1 (routines c) parts are.parts_are, routines_room c)
