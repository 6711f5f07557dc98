-- What an accepted call on marks keeps, and that coming back restores what was set.
--   MarkAsked        1, 2, 3 and 17 got yes
--   ..-zero           a chain that is 0: what was asked holds
--   set_right, removed_right   the store after an accepted call: it keeps the rules again
--   set_others, removed_others, other_marks   other marks are unaffected, whatever the call answers
--   mark_is_image, mark_read   a mark that the store has holds an image of sound tables, which reading takes
--   return_right      after an accepted coming back: what reading the mark's image leaves
--   return_restores   coming back to a mark restores links, numbers and order as they were when it was set
use Rattle.std.specs.Prelude.{◌≡◌, ◌⊎◌, ◌||◌, ◌∷◌, ◌+◌, ◌≤◌}
use Rattle.lists.{specs.Kit.{refl, sym, ap, ◌∙◌, inl, inr, Bool, true, false, cond, List, [], ℕ, zero, suc, arith, ltb, length}}
use Rattle.lists.{specs.Kit.{eqb-true, ltb-true}, specs.Lists.{same, EntriesBelow}, proofs.Tests.{and_left, and_right, or_cases, never}}
use Rattle.mesh.{specs.Limits.{max_radios}, specs.Tables.{Tables, tables_of, graph_in, TablesOfSize}, specs.Sound.{sound}}
use Rattle.mesh.{specs.Image.{image_of, image_graph, image_order, is_image, whole_blocks, checks_good}, proofs.Images.Of.{whole_blocks_image_of}}
use Rattle.mesh.{proofs.Images.Of.{checks_good_image_of}, proofs.Images.Sites.{written_read}, specs.Marks.{places, store_bytes, before, is_name, is_store}}
use Rattle.mesh.{specs.Marks.{name_in, image_in, place_of, marks_in, store_of, has_mark, found, with_mark, without_mark}, proofs.Images.Tables.{is_image_sound}}
use Rattle.mesh.{proofs.Images.Tables.{tables_read_written}, proofs.Marks.Lists.{rising_with, has_mark_with_same, found_with_same, found_with_other}}
use Rattle.mesh.{proofs.Marks.Lists.{has_mark_with_other, length_with, rising_without, has_mark_without_same, found_without_other, has_mark_without_other}}
use Rattle.mesh.{proofs.Marks.Lists.{length_without, found_mark}, proofs.Marks.Rules.{store_good_iff}, proofs.Marks.Laws.{Marks, marks_store_of}}
use Rattle.mesh.{proofs.Marks.Laws.{length_store_of, is_store_of, StoreMarks, store_marks, PlaceMark, place_mark, mark_place}}
use Rattle.calls.specs.{Questions.{ask, Lengths, lengths_of, read_refusal}, Outcomes.{Tabled, read_outcome}}
use Rattle.calls.specs.{MarkOutcomes.{store_outcome, set_outcome, remove_outcome, return_outcome}, Results.{ReadRight}, MarkResults.{StoreRight}}
use Rattle.calls.specs.{MarkResults.{SetRight, RemovedRight, SameMark}, Marks.{store_length, marks_good, is_marked, has_place, mark_refusal}}
use Rattle.calls.specs.{Marks.{set_refusal, named_refusal, mark_image}}
use Rattle.calls.proofs.{QuestionLaws.{ask_zero}, ChainLaws.{SiteGood, site_zero, BlocksGood, read_yes}, ContractLaws.{accepted_is, by_zero}}
use Rattle.calls.proofs.{Accepted.{read_right}}
use Rattle.calls.specs.Questions.{by_number}
use Rattle.calls.specs.Outcomes.{Listing, listing}
use Rattle.calls.specs.Chains.{set_store, removed_store}

-- ---- questions

pub record MarkAsked (n : ℕ) (l : Lengths) (sound : Bool) (x bs : List ℕ) : Type 0 where
  pub site : SiteGood n l (store_length bs) sound
  pub store : StoreMarks n bs
  pub name : is_name x ≡ true

pub mark_zero : (n : ℕ) (l : Lengths) (sound : Bool) (x bs : List ℕ) (later : ℕ) → mark_refusal n l sound x bs later ≡ 0 → MarkAsked n l sound x bs ×
    (later ≡ 0)
unfolding mark_refusal marks_good store_length
mark_zero n l sound x bs later p =
    let q = site_zero n l (store_length bs) sound (ask 17 (marks_good n x bs) later) p in
    let r = ask_zero 16 (marks_good n x bs) later q.1 in (
      record {
        site = q.0;
        store = store_marks n bs (eqb-true (length bs) store_bytes q.0.lent.further) (and_left (is_store n bs) (is_name x) r.0);
        name = and_right (is_store n bs) (is_name x) r.0;
      },
      r.1,
    )

pub set_zero : (n : ℕ) (l : Lengths) (sound : Bool) (x bs : List ℕ) → set_refusal n l sound x bs ≡ 0 → MarkAsked n l sound x bs × (has_place x bs ≡ true)
unfolding set_refusal
set_zero n l sound x bs p = let q = mark_zero n l sound x bs _ p in (q.0, (ask_zero 18 (has_place x bs) 0 q.1).0)

pub named_zero : (n : ℕ) (l : Lengths) (sound : Bool) (x bs : List ℕ) → named_refusal n l sound x bs ≡ 0 → MarkAsked n l sound x bs × (is_marked x bs ≡ true)
unfolding named_refusal
named_zero n l sound x bs p = let q = mark_zero n l sound x bs _ p in (q.0, (ask_zero 17 (is_marked x bs) 0 q.1).0)

-- the number 0 is no refusal
store_is : (R : ℕ) (new old : List ℕ) → (store_outcome R new old).reply ≡ 0 → (R ≡ 0) × (store_outcome R new old ≡ listing 0 new)
unfolding store_outcome
store_is R new old z = accepted_is (λ (o : Listing ℕ (List ℕ)). o.reply) (store_outcome R new old) R _ _ (λ q. refl) refl z

-- ---- setting

-- the store of at most 8 marks in rising order
store_right : (n : ℕ) (ps : List (List ℕ)) (cs : List ℕ) → n ≤ max_radios → Marks n ps → cs ≡ store_of ps → StoreRight n cs
store_right n ps cs small m e =
    let long : length cs ≡ store_bytes = ap length e ∙ length_store_of n ps m in
    let good : is_store n cs ≡ true = ap (is_store n) e ∙ is_store_of n ps m in
    record { long = long; good = good; rules = (store_good_iff n cs small long).0 good }

name_first : (x : List ℕ) → is_name x ≡ true → before [] x ≡ true
unfolding before is_name
name_first [] h = never false h refl
name_first (c ∷ cs) h = refl

set_marks :
    (n : ℕ) (x image : List ℕ) (ps : List (List ℕ)) → Marks n ps → PlaceMark n x image → is_name x ≡ true →
    (has_mark x ps || ltb (length ps) places) ≡ true → Marks n (with_mark (place_of x image) ps)
set_marks n x image ps m k name room =
    let p = place_of x image in
    let more = length_with n [] p ps m.rising in
    record {
      rising = rising_with n p k.long k.good [] ps (rw k.name (name_first x name)) m.rising;
      few = go (or_cases (has_mark x ps) (ltb (length ps) places) room) (rw k.name at more) m.few;
    }
  where
    go : (has_mark x ps ≡ true) ⊎ (ltb (length ps) places ≡ true) →
        length (with_mark (place_of x image) ps) + cond (has_mark x ps) 1 0 ≡ suc (length ps) → length ps ≤ places →
        length (with_mark (place_of x image) ps) ≤ places
    go (inl h) l f = omega (arith, rw h at l)
    go (inr h) l f = omega (arith, ltb-true (length ps) places h)

pub set_right : (n : ℕ) (x : List ℕ) (t : Tables) (bs : List ℕ) → let o = set_outcome n x t bs in o.reply ≡ 0 → SetRight n x t bs o.lent
unfolding set_outcome has_place is_marked mark_image
set_right n x t bs z =
    let a = store_is (set_refusal n (lengths_of t) (sound n t) x bs) (set_store n x t bs) bs z in
    let q = set_zero n (lengths_of t) (sound n t) x bs a.0 in
    let image = image_of (graph_in n t.links) t.order in
    let small = q.0.site.lent.most in
    let k = place_mark n x image small q.0.name (is_image_sound n t small q.0.site.is_sound) in
    let p = place_of x image in
    let ps = marks_in bs in
    let m = q.0.store.marks in
    let b = set_marks n x image ps m k q.0.name q.1 in
    let e = marks_store_of n (with_mark p ps) b in
    rw a.1 (record {
      store = store_right n (with_mark p ps) _ small b refl;
      there = rw e (ap (λ (y : List ℕ). has_mark y (with_mark p ps)) (sym k.name) ∙ has_mark_with_same p ps);
      image = rw e (ap (image_in n) (ap (λ (y : List ℕ). found y (with_mark p ps)) (sym k.name) ∙ found_with_same p ps) ∙ k.image);
      count = rw e (rw k.name at (length_with n [] p ps m.rising));
    })

-- ---- removing

pub removed_right : (n : ℕ) (x : List ℕ) (t : Tables) (bs : List ℕ) → let o = remove_outcome n x t bs in o.reply ≡ 0 → RemovedRight n x bs o.lent
unfolding remove_outcome is_marked
removed_right n x t bs z =
    let a = store_is (named_refusal n (lengths_of t) (sound n t) x bs) (removed_store x bs) bs z in
    let q = named_zero n (lengths_of t) (sound n t) x bs a.0 in
    let ps = marks_in bs in
    let m = q.0.store.marks in
    let few = m.few in
    let less = length_without x ps in
    let b : Marks n (without_mark x ps) = record { rising = rising_without n x [] ps m.rising; few = omega arith } in
    let e = marks_store_of n (without_mark x ps) b in
    let l : length (without_mark x ps) + 1 ≡ length ps = rw q.1 at less in
    rw a.1 (record {
      store = store_right n (without_mark x ps) _ q.0.site.lent.most b refl;
      gone = rw e (has_mark_without_same n x [] ps m.rising);
      count = rw e (omega arith);
    })

-- ---- other marks are unaffected, whatever the call answers

same_mark : (y bs : List ℕ) → SameMark y bs bs
same_mark y bs = record { there = refl; place = refl }

set_others : (n : ℕ) (x : List ℕ) (t : Tables) (bs y : List ℕ) → same x y ≡ false → SameMark y bs (set_outcome n x t bs).lent
unfolding set_outcome store_outcome by_number is_marked has_place
set_others n x t bs y h = go (set_refusal n (lengths_of t) (sound n t) x bs) refl
  where
    go : (R : ℕ) → set_refusal n (lengths_of t) (sound n t) x bs ≡ R → SameMark y bs (store_outcome R (set_store n x t bs) bs).lent
    go zero e =
        let q = set_zero n (lengths_of t) (sound n t) x bs e in
        let image = image_of (graph_in n t.links) t.order in
        let small = q.0.site.lent.most in
        let k = place_mark n x image small q.0.name (is_image_sound n t small q.0.site.is_sound) in
        let p = place_of x image in
        let b = set_marks n x image (marks_in bs) q.0.store.marks k q.0.name q.1 in
        let f = marks_store_of n (with_mark p (marks_in bs)) b in
        let o : same (name_in p) y ≡ false = ap (λ (z : List ℕ). same z y) k.name ∙ h in
        record { there = ap (has_mark y) f ∙ has_mark_with_other y p (marks_in bs) o; place = ap (found y) f ∙ found_with_other y p (marks_in bs) o }
    go (suc z) e = same_mark y bs

removed_others : (n : ℕ) (x : List ℕ) (t : Tables) (bs y : List ℕ) → same x y ≡ false → SameMark y bs (remove_outcome n x t bs).lent
unfolding remove_outcome store_outcome by_number is_marked
removed_others n x t bs y h = go (named_refusal n (lengths_of t) (sound n t) x bs) refl
  where
    go : (R : ℕ) → named_refusal n (lengths_of t) (sound n t) x bs ≡ R → SameMark y bs (store_outcome R (removed_store x bs) bs).lent
    go zero e =
        let m = (named_zero n (lengths_of t) (sound n t) x bs e).0.store.marks in
        let few = m.few in
        let less = length_without x (marks_in bs) in
        let b : Marks n (without_mark x (marks_in bs)) = record { rising = rising_without n x [] (marks_in bs) m.rising; few = omega arith } in
        let f = marks_store_of n (without_mark x (marks_in bs)) b in
        record { there = ap (has_mark y) f ∙ has_mark_without_other x y (marks_in bs) h; place = ap (found y) f ∙ found_without_other x y (marks_in bs) h }
    go (suc z) e = same_mark y bs

-- setting or removing another name
pub other_marks :
    (n : ℕ) (x : List ℕ) (t : Tables) (bs y : List ℕ) → same x y ≡ false →
    SameMark y bs (set_outcome n x t bs).lent × SameMark y bs (remove_outcome n x t bs).lent
other_marks n x t bs y h = (set_others n x t bs y h, removed_others n x t bs y h)

-- ---- coming back

-- an image of sound tables passes its checks
pub image_blocks : (n : ℕ) (bs : List ℕ) → is_image n bs ≡ true → BlocksGood bs
image_blocks n bs i =
    let g = image_graph n bs in
    let xs = image_order n bs in
    record {
      whole = ap whole_blocks (sym (written_read n bs i)) ∙ whole_blocks_image_of g xs;
      checks = ap checks_good (sym (written_read n bs i)) ∙ checks_good_image_of g xs;
    }

-- a mark that the store has holds an image of sound tables
pub mark_is_image : (n : ℕ) (x bs : List ℕ) → Marks n (marks_in bs) → is_marked x bs ≡ true → is_image n (mark_image n x bs) ≡ true
unfolding is_marked mark_image
mark_is_image n x bs m h =
    let f = found_mark n x [] (marks_in bs) m.rising h in (mark_place n (found x (marks_in bs)) f.0 f.1).1

-- reading takes it
pub mark_read :
    (n : ℕ) (l : Lengths) (sound : Bool) (x bs : List ℕ) → MarkAsked n l sound x bs → is_marked x bs ≡ true → read_refusal n l (mark_image n x bs) ≡ 0
mark_read n l sound x bs a h =
    let g = a.site.lent in
    let i = mark_is_image n x bs a.store.marks h in
    read_yes n l (mark_image n x bs) (record { least = g.least; most = g.most; lengths = g.lengths; further = refl }) (image_blocks n (mark_image n x bs) i)
    i

-- accepted: the tables of the mark's image, which are what reading it leaves
pub return_right :
    (n : ℕ) (x bs : List ℕ) (t : Tables) → let o = return_outcome n x bs t in o.reply ≡ 0 →
    (o ≡ read_outcome n (mark_image n x bs) t) × ReadRight n (mark_image n x bs) o.tables
unfolding return_outcome read_outcome
return_right n x bs t z =
    let image = mark_image n x bs in
    let a = accepted_is (λ (o : Tabled ℕ). o.reply) (return_outcome n x bs t) _ _ _ (λ q. refl) refl z in
    let q = named_zero n (lengths_of t) (sound n t) x bs a.0 in
    let same : return_outcome n x bs t ≡ read_outcome n image t =
    a.1 ∙ sym (by_zero _ _ _ (mark_read n (lengths_of t) (sound n t) x bs q.0 q.1) refl) in
    (same, rw same (read_right n image t (ap (λ (o : Tabled ℕ). o.reply) (sym same) ∙ z)))

-- set with the tables t, later the store has the same place under that name: coming back restores t. That their links are bytes is all that
-- is asked of them
pub return_restores :
    (n : ℕ) (x : List ℕ) (t u : Tables) (bs ds : List ℕ) → EntriesBelow 256 t.links → let o = set_outcome n x t bs in o.reply ≡ 0 →
    SameMark x o.lent ds → (return_outcome n x ds u).reply ≡ 0 → (return_outcome n x ds u).tables ≡ t
unfolding mark_image return_outcome set_outcome lengths_of
return_restores n x t u bs ds bytes z s y =
    let k = set_right n x t bs z in
    let a = store_is (set_refusal n (lengths_of t) (sound n t) x bs) (set_store n x t bs) bs z in
    let site = (set_zero n (lengths_of t) (sound n t) x bs a.0).0.site in
    let l = site.lent.lengths in
    let size : TablesOfSize n t = record { links_length = l.links; numbers_length = l.numbers; order_length = l.order; links_bytes = bytes } in
    let e : mark_image n x ds ≡ image_of (graph_in n t.links) t.order = ap (image_in n) s.place ∙ k.image in
    let r = accepted_is (λ (o : Tabled ℕ). o.reply) (return_outcome n x ds u) _ _ _ (λ q. refl) refl y in
    ap (λ (o : Tabled ℕ). o.tables) r.1
    ∙ ap (λ (o : List ℕ). tables_of (image_graph n o) (image_order n o)) e
    ∙ tables_read_written n t site.lent.most size site.is_sound
