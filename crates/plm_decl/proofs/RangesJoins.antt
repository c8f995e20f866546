-- What the modules declare is within its own counts, and stays so where they are joined.
use Rattle.std.proofs.Common.{◌≡◌, ℕ, ◌+◌, ◌≤◌, List, [], ◌∷◌, map, length, Bool, true, false, ◌&&◌, cond, Option, Some, None, nat_lt, nat_eq, refl, ap, ◌∙◌, arith}
use Rattle.std.proofs.lemmas.Bool.{and_parts}
use Rattle.std.specs.Prelude.{slice_get}
use Rattle.std.specs.List.{list_all, sum_by}
use Rattle.std.proofs.lemmas.List.{length-set}
use Rattle.std.proofs.lemmas.List.Sums.{sum_by-cons}
use Rattle.std.proofs.lemmas.Bool.Decides.{nat_tests}
use Rattle.word86.specs.declared.number.Number.TheVariants.{E308, E310}
use Rattle.word86.specs.MemoryMap.{data_room}
use Rattle.plm_token.specs.Names.{normal}
use Rattle.plm_syntax.specs.Tree.{ModuleT, ModuleOf}
use Rattle.plm_decl.specs.declared.names.Variable.{Variable}
use Rattle.plm_decl.specs.declared.names.Object.{Object}
use Rattle.plm_decl.specs.declared.names.Item.{Item}
use Rattle.plm_decl.specs.declared.names.Item.TheVariants as item
use Rattle.plm_decl.specs.declared.found.Found.{Found}
use Rattle.plm_decl.specs.Layout.{counted}
use Rattle.plm_decl.specs.Scope.{frame, found_in}
use Rattle.plm_decl.specs.Resolver.{Known, ExternalR, nothing_known}
use Rattle.plm_decl.specs.Names.{ProcedureR, object_of}
use Rattle.plm_decl.specs.Resolved.{StatementsR}
use Rattle.plm_decl.specs.Statements.{block}
use Rattle.plm_decl.specs.Linkage.{start}
use Rattle.plm_decl.specs.Joins.{same_type, agree, with_region, with_entry_at, region_joined, entry_joined, joined, external_joined, externals_joined, bytes_from, have_room, program_fault, modules_joined, has_statements, with_main, at_module, with_module, modules_from, known_from}
use Rattle.plm_decl.specs.Ranges.{Counts, form_within, region_within, variable_within, procedure_within, main_within, statements_within}
use Rattle.plm_decl.specs.Inner.Ranges.{counts_of, Within, item_within}
use Rattle.plm_decl.proofs.Kept.{Ends, Kept, kept, kept_then, both, all_pushed, all_set, maybe, got}
use Rattle.plm_decl.specs.Inner.Regions.{lies_in}
use Rattle.plm_decl.proofs.Lying.{joined_lies}
use Rattle.plm_decl.proofs.RangesNames.{found_within}
use Rattle.plm_decl.proofs.RangesStatements.{block_gives}
use Rattle.plm_decl.proofs.Joined.{fault_holds}

-- ---- modules

main_ends : (c : Counts) (b : Bool) (ss : StatementsR) (k : Known) → Ends c (with_main b ss k) → Ends c k
main_ends c true ss k e = e
main_ends c false ss k e = e

main_stays : (c : Counts) (b : Bool) (ss : StatementsR) (k : Known) → statements_within c ss ≡ true → Within c k → Within c (with_main b ss k)
main_stays c true ss k h w = (w.0, w.1, w.2, w.3, all_pushed (main_within c) k.mains _ w.4 h, w.5, w.6, w.7)
main_stays c false ss k h w = w

module_kept : (c : Counts) (number : ℕ) (m : ModuleT) (k : Known) → Kept c k (with_module number m k)
module_kept c number (ModuleOf n b e) k =
    let frames = frame (normal n.text) false ∷ [] in
    let r = block frames b (at_module number k) in
    let here = block_gives c frames b (at_module number k) in
    record {
      ends = λ d. here.ends (main_ends c (has_statements b) r.0 r.2 d);
      within = λ d w. let before = main_ends c (has_statements b) r.0 r.2 d in let done = here.within refl before w in main_stays c (has_statements b) r.0 r.2 done.2 done.0;
    }

modules_kept : (c : Counts) (number : ℕ) (ms : List ModuleT) (k : Known) → Kept c k (modules_from number ms k)
modules_kept c number [] k = kept c k
modules_kept c number (m ∷ ms) k = kept_then (module_kept c number m k) (modules_kept c (number + 1) ms (with_module number m k))

ends_here : (k : Known) → k.faults ≡ [] → Ends (counts_of k) k
ends_here k h = (omega arith, omega arith, omega arith, omega arith, h)

nothing_within : (c : Counts) → Within c nothing_known
nothing_within c = (refl, refl, refl, refl, refl, refl, refl, refl)

pub known_within : (ms : List ModuleT) → (known_from ms).faults ≡ [] → Within (counts_of (known_from ms)) (known_from ms)
known_within ms h = let k = known_from ms in (modules_kept (counts_of k) 0 ms nothing_known).within (ends_here k h) (nothing_within (counts_of k))

-- ---- joining

region_stays : (c : Counts) (m : ℕ) (v w : Option Variable) (k : Known) → maybe (variable_within c) v ≡ true → maybe (variable_within c) w ≡ true
    → same_type k v w ≡ true → maybe (lies_in k.objects) w ≡ true → Within c k → Within c (region_joined m v w k)
region_stays c m None w k g h a l i = i
region_stays c m (Some v) None k g h a l i = i
region_stays c m (Some v) (Some w) k g h a l i =
    let one = (and_parts (form_within c v.form) (region_within c v.region) g).0 in
    let two = (and_parts (form_within c w.form) (region_within c w.region) h).1 in
    (all_set (variable_within c) k.variables m (with_region w.region v) i.0 (both one two), i.1, i.2, i.3, i.4, i.5, i.6, all_set (lies_in k.objects) k.variables m (with_region w.region v) i.7 (joined_lies k k.objects v w a l))

entry_stays : (c : Counts) (m : ℕ) (p : Option ProcedureR) (n : ℕ) (k : Known) → maybe (procedure_within c) p ≡ true → nat_lt n c.procedures ≡ true → Within c k → Within c (entry_joined m p n k)
entry_stays c m None n k g h i = i
entry_stays c m (Some p) n k g h i =
    let ps = list_all (λ v. nat_lt v c.variables) p.parameters in
    let body = statements_within c p.body in
    let entry = nat_lt p.entry c.procedures in
    (i.0, i.1, all_set (procedure_within c) k.procedures m (with_entry_at n p) i.2 (both (and_parts ps (entry && body) g).0 (both h (and_parts entry body (and_parts ps (entry && body) g).1).1)), i.3, i.4, i.5, i.6, i.7)

joined_stays : (c : Counts) (e p : Item) (k : Known) → item_within c p ≡ true → agree k e p ≡ true → Within c k → Within c (joined e p k)
joined_stays c (item.Variable m) (item.Variable n) k h a w =
    region_stays c m (slice_get k.variables m) (slice_get k.variables n) k (got (variable_within c) k.variables m w.0) (got (variable_within c) k.variables n w.0)
    a (got (lies_in k.objects) k.variables n w.7) w
joined_stays c (item.Variable m) (item.Procedure n) k h a w = w
joined_stays c (item.Procedure m) (item.Variable n) k h a w = w
joined_stays c (item.Procedure m) (item.Procedure n) k h a w = entry_stays c m (slice_get k.procedures m) n k (got (procedure_within c) k.procedures m w.2) h w

where_stays : (c : Counts) (b : Bool) (k q : Known) → (b ≡ true → Within c k) → Within c q → Within c (cond b k q)
where_stays c true k q g h = g refl
where_stays c false k q g h = h

external_stays : (c : Counts) (e : Item) (p : Option Item) (k : Known) → maybe (item_within c) p ≡ true → Within c k → Within c (external_joined e p k)
external_stays c e None k h w = w
external_stays c e (Some p) k h w = where_stays c (agree k e p) _ _ (λ a. joined_stays c e p k h a w) w

externals_stay : (c : Counts) (es : List ExternalR) (k : Known) → Within c k → Within c (externals_joined es k)
externals_stay c [] k w = w
externals_stay c (e ∷ es) k w =
    externals_stay c es (external_joined e.item (found_in e.name k.publics) k) (external_stays c e.item (found_in e.name k.publics) k (found_within c e.name k.publics w.5) w)

fault_stays : (c : Counts) (b : Bool) (f : Found) (k : Known) → Within c k → Within c (program_fault b f k)
fault_stays c true f k w = w
fault_stays c false f k w = w

pub joined_within : (c : Counts) (k : Known) → Within c k → Within c (modules_joined k)
joined_within c k w =
    let q = externals_joined k.externals (record k { externals = [] }) in
    fault_stays c _ _ _ (fault_stays c (nat_eq (length q.mains) 1) _ q (externals_stay c k.externals (record k { externals = [] }) (w.0, w.1, w.2, w.3, w.4, w.5, refl, w.7)))

-- as many of each as before
region_counts : (m : ℕ) (v w : Option Variable) (k : Known) → counts_of (region_joined m v w k) ≡ counts_of k
region_counts m None w k = refl
region_counts m (Some v) None k = refl
region_counts m (Some v) (Some w) k =
    let made = λ (i : ℕ). let r : Counts = record { variables = i; structures = length k.structures; objects = length k.objects; procedures = length k.procedures } in r in
    ap made (length-set k.variables m (with_region w.region v))

entry_counts : (m : ℕ) (p : Option ProcedureR) (n : ℕ) (k : Known) → counts_of (entry_joined m p n k) ≡ counts_of k
entry_counts m None n k = refl
entry_counts m (Some p) n k =
    let made = λ (i : ℕ). let r : Counts = record { variables = length k.variables; structures = length k.structures; objects = length k.objects; procedures = i } in r in
    ap made (length-set k.procedures m (with_entry_at n p))

item_counts : (e p : Item) (k : Known) → counts_of (joined e p k) ≡ counts_of k
item_counts (item.Variable m) (item.Variable n) k = region_counts m (slice_get k.variables m) (slice_get k.variables n) k
item_counts (item.Variable m) (item.Procedure n) k = refl
item_counts (item.Procedure m) (item.Variable n) k = refl
item_counts (item.Procedure m) (item.Procedure n) k = entry_counts m (slice_get k.procedures m) n k

where_counts : (b : Bool) (k q r : Known) → counts_of k ≡ counts_of r → counts_of q ≡ counts_of r → counts_of (cond b k q) ≡ counts_of r
where_counts true k q r g h = g
where_counts false k q r g h = h

external_counts : (e : Item) (p : Option Item) (k : Known) → counts_of (external_joined e p k) ≡ counts_of k
external_counts e None k = refl
external_counts e (Some p) k = where_counts (agree k e p) _ _ k (item_counts e p k) refl

externals_counts : (es : List ExternalR) (k : Known) → counts_of (externals_joined es k) ≡ counts_of k
externals_counts [] k = refl
externals_counts (e ∷ es) k =
    let o = found_in e.name k.publics in externals_counts es (external_joined e.item o k) ∙ external_counts e.item o k

fault_counts : (b : Bool) (f : Found) (k : Known) → counts_of (program_fault b f k) ≡ counts_of k
fault_counts true f k = refl
fault_counts false f k = refl

pub joined_counts : (k : Known) → counts_of (modules_joined k) ≡ counts_of k
joined_counts k =
    let q = externals_joined k.externals (record k { externals = [] }) in
    fault_counts _ _ _ ∙ fault_counts (nat_eq (length q.mains) 1) _ q ∙ externals_counts k.externals (record k { externals = [] })

-- ---- room

fault_objects : (b : Bool) (f : Found) (k : Known) → (program_fault b f k).objects ≡ k.objects
fault_objects true f k = refl
fault_objects false f k = refl

pub joined_room : (k : Known) → (modules_joined k).whole ≡ [] → have_room (modules_joined k).objects ≡ true
joined_room k e =
    let q = externals_joined k.externals (record k { externals = [] }) in
    let p = program_fault (nat_eq (length q.mains) 1) (record { «module» = 0; place = start; number = E308 }) q in
    ap have_room (fault_objects (have_room p.objects) (record { «module» = 0; place = start; number = E310 }) p) ∙ fault_holds (have_room p.objects) (record { «module» = 0; place = start; number = E310 }) p e

sizes_from : (b : ℕ) (os : List Object) → bytes_from b (map object_of os) ≤ data_room → b + sum_by (λ o. o.size) os ≤ data_room
sizes_from b [] h = omega arith
sizes_from b (o ∷ os) h = let rest = sizes_from (counted (b + o.size)) os h in omega (arith, rest, sum_by-cons (λ (o : Object). o.size) o os)

pub sizes_within : (os : List Object) → have_room (map object_of os) ≡ true → sum_by (λ o. o.size) os ≤ data_room
sizes_within os h = let here : bytes_from 0 (map object_of os) ≤ data_room = grind (arith, nat_tests) in omega (arith, sizes_from 0 os here)
