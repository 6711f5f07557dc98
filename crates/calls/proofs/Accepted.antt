-- Property 2, of the outcomes: what a caller has after an accepted call. The definitions are in specs/Results.antt.
--   check_right          the check answers 1 exactly for proper rows, core numbers and a k-order
--   link_right           numbers and order are right after a link call, for the graph in the new links table
--   ask_right            asking lists exactly the radios whose core number would differ
--   commit_right         numbers and order are right after a committing
--   number_right         the number answered is the core number by the largest group
--   later_right          the later neighbours are counted, and the first is the first
--   core_right, backbone_right   the radios listed are exactly the connected core, the backbone
--   tree_right_listed    the nodes are the shell tree, and each radio has its node's name
--   sheet_right          the page is the sheet, column by column, with each radio's core number
--   write_right          the bytes written are the image of the tables, and of sound tables
--   read_right           the tables of an accepted image are sound, and written again they give the same bytes
--   read_what_was_written   sound tables, written and read, are the same tables
--   block_right          what a step of the block reader gives
use Rattle.std.specs.Prelude.{◌≡◌, ◌⊎◌, ◌↔◌, ◌/◌, ◌<◌}
use Rattle.lists.{specs.Kit.{refl, sym, ap, subst, ◌∙◌, inl, inr, Bool, true, false, not, cond, List, ℕ, arith, ltb, eqb, ℤ, length}}
use Rattle.lists.{specs.Kit.{get_or, take, drop, List·getD-append, ext_get_or, ltb-true, ltb-false, eq-eqb, ne_eqb, not-true}, specs.Lists.{range, filter, member}}
use Rattle.lists.{specs.Lists.{overwrite, In, Ascending, EntriesBelow}, proofs.Tests.{never}, proofs.Map.{length-map, get_d_map_range}}
use Rattle.lists.{proofs.Filter.{member_filter}, proofs.Range.{length_range, in_range, once_below}, proofs.Overwrite.{take_overwrite, drop_overwrite}}
use Rattle.mesh.{specs.Limits.{max_neighbours}, specs.Graph.{Graph, linked, radios, relinked, Allowed}, specs.Cores.{Core, number, numbers}}
use Rattle.mesh.{specs.Orders.{is_k_order, nobody}, specs.Levels.{changed}, specs.Tables.{Tables, graph_in, tables_of, TablesOfSize}, specs.Sound.{sound}}
use Rattle.mesh.{specs.Connected.{InCore, InBackbone, core_of, backbone}, specs.Tree.{tree, node_name, node_names}, specs.Image.{block_bytes, image_of}}
use Rattle.mesh.{specs.Image.{image_graph, image_order}}
use Rattle.mesh.{specs.Image.{payload_at}, specs.declared.Node.{Node}, proofs.Cores.Peeling.{number_core, number_unique, length_numbers}}
use Rattle.mesh.{proofs.Cores.Peeling.{get_d_numbers}, proofs.Cores.KOrders.{k_order_certificate}, proofs.Cores.Later.{first_is_first, nobody_none}}
use Rattle.mesh.{proofs.Tables.ReadBack.{graph_in_links_table}, proofs.Tables.Soundness.{sound_iff, valid_sound}, proofs.Tables.Sites.{image_valid}}
use Rattle.mesh.{proofs.Trees.Reach.{core_of_iff}, proofs.Trees.Unique.{tree_iff, node_name_iff}, proofs.Trees.Listed.{changed_ascending, core_ascending}}
use Rattle.mesh.{proofs.Trees.Listed.{backbone_ascending, backbone_iff}, proofs.Links.Tables.{graph_in_put_link, rows_put_link}, proofs.Links.Laws.{link_valid}}
use Rattle.mesh.{proofs.Images.Of.{length_image_of, whole_blocks_image_of, checks_good_image_of}, proofs.Images.Sites.{written_read}}
use Rattle.mesh.{proofs.Images.Tables.{valid_graph_in, is_image_sound, is_image_tables, tables_read_written}, specs.Valid.{Valid}}
use Rattle.calls.specs.{Questions.{lengths_of, image_length, tables_refusal, radio_refusal}}
use Rattle.calls.specs.{Questions.{read_refusal}, Sheet.{sheet, sheet_length}, Switches.{switch, switched}, Outcomes.{Tabled, tabled}}
use Rattle.calls.specs.{Outcomes.{Linked, Listing, listing, value, link_outcome, ask_outcome, commit_outcome, read_outcome}}
use Rattle.calls.specs.{Outcomes.{value_outcome, check_outcome, number_outcome, later_outcome, listing_outcome, core_outcome, backbone_outcome}}
use Rattle.calls.specs.{Outcomes.{tree_outcome, sheet_outcome, write_outcome, no_block, block_or_end, block_outcome}, Results.{NumbersRight, SiteRight}}
use Rattle.calls.specs.{Results.{Listed, LinkRight, RadiosListed, TreeListed, WrittenRight, ReadRight, AskRight, CommitRight}}
use Rattle.calls.specs.{Results.{BlockPart, BlockEnd, LaterRight, SheetRight}, declared.Value.{Value}, declared.Later.{Later}, declared.Block.{Block}}
use Rattle.calls.proofs.{ContractLaws.{asking_is, accepted_is, by_zero}, ChainLaws.{lent_zero, SiteGood, link_zero, commit_zero, radio_zero, core_zero}}
use Rattle.calls.proofs.{ChainLaws.{write_zero, read_zero, read_yes, sheet_zero}, SheetLaws.{sheet_fits, length_sheet, columns_front, columns_by}}
use Rattle.calls.specs.Chains.{core_refusal, backbone_refusal, write_refusal, sheet_refusal}
use Rattle.calls.specs.declared.Reply.{Reply}

-- ---- a list in front of a lent list

listed_front : (new old : List ℕ) → Ascending new → Listed (length new) old (overwrite new old)
listed_front new old a = record { ascending = rw (take_overwrite new old) a; later_entries = drop_overwrite new old }

-- ---- link calls

numbers_right : (g : Graph) (t : Tables) → t.numbers ≡ numbers g → is_k_order g t.order ≡ true → NumbersRight g t
numbers_right g t e k = record { cores = λ x l. rw (e, get_d_numbers g x l) (number_core g x l); k_order = k }

-- the graph in the new links table is the graph with the link changed
pub switched_right :
    (up : Bool) (n a b : ℕ) (t : Tables) (others : Bool) → SiteGood n (lengths_of t) others (sound n t) →
    Allowed max_neighbours up a b (graph_in n t.links) → CommitRight up n a b t (switched n (switch up a b) t)
unfolding graph_in sound lengths_of switched
switched_right up n a b t others good ok =
    let g = graph_in n t.links in
    let v = switched n (switch up a b) t in
    let valid = link_valid max_neighbours up a b g t.order (valid_graph_in max_neighbours n t good.lent.most good.is_sound) ok in
    let after : graph_in n v.links ≡ relinked up a b g =
    graph_in_put_link up n a b t good.lent.most good.lent.lengths.links good.is_sound ok in
    record {
      graph = after;
      right = record {
        rows = rows_put_link up n a b t good.lent.most good.lent.lengths.links good.is_sound ok;
        right = rw after (numbers_right (relinked up a b g) v refl valid.k_order);
      };
    }

pub link_right :
    (up : Bool) (n a b : ℕ) (t : Tables) (w : List ℕ) → let o = link_outcome up n a b t w in
    o.reply.number ≡ 0 → LinkRight up n a b t o.tables o.reply.count w o.lent
unfolding link_outcome sound graph_in
link_right up n a b t w z =
    let g = graph_in n t.links in
    let c = accepted_is (λ (o : Linked Reply). o.reply.number) (link_outcome up n a b t w) _ _ _ (λ q. refl) refl z in
    let good = link_zero up a b (lengths_of t) (length w) (sound n t) g c.0 in
    let s = switched_right up n a b t _ good.0 good.1 in
    rw c.1 (record { graph = s.graph; right = s.right; listed = listed_front (changed up a b g) w (changed_ascending up a b g) })

-- ---- a link call in two steps

-- the changed radios are the ones whose core number by the largest group differs
changed_exactly :
    (up : Bool) (a b : ℕ) (g : Graph) (v j k : ℕ) → v < g.n → Core g v j → Core (relinked up a b g) v k →
    (member v (changed up a b g) ≡ true) ↔ (j ≡ k → ⊥)
unfolding changed radios relinked
changed_exactly up a b g v j k l p q =
    let f : ℕ → Bool = λ u. not (eqb (number g u) (number (relinked up a b g) u)) in
    let is : member v (filter f (range 0 g.n)) ≡ not (eqb j k) =
    member_filter f (range 0 g.n) v (in_range 0 g.n v (omega arith) (omega arith))
    ∙ rw (number_unique g v j l p, number_unique (relinked up a b g) v k l q) refl in
    (λ h e. never (eqb j k) (eq-eqb j k e) (not-true (eqb j k) (sym is ∙ h)), λ h. is ∙ ap not (ne_eqb j k h))

pub ask_right :
    (up : Bool) (n a b : ℕ) (t : Tables) (w : List ℕ) → let o = ask_outcome up n a b t w in
    o.reply.number ≡ 0 → AskRight up a b (graph_in n t.links) o.reply.count w o.lent
ask_right up n a b t w z =
    let g = graph_in n t.links in
    let cs = changed up a b g in
    let c = accepted_is (λ (o : Listing Reply (List ℕ)). o.reply.number) (ask_outcome up n a b t w) _ _ _ (λ q. refl) (asking_is up n a b t w) z in
    rw c.1 (record {
      exactly = λ v j k l p q. rw (take_overwrite cs w) (changed_exactly up a b g v j k l p q);
      listed = listed_front cs w (changed_ascending up a b g);
    })

pub commit_right :
    (up : Bool) (n a b : ℕ) (z : ℤ) (xs : List ℕ) (t : Tables) → let o = commit_outcome up n a b z xs t in
    o.reply.number ≡ 0 → CommitRight up n a b t o.tables
unfolding commit_outcome graph_in
commit_right up n a b z xs t y =
    let c = accepted_is (λ (o : Tabled Reply). o.reply.number) (commit_outcome up n a b z xs t) _ _ _ (λ q. refl) refl y in
    let good = commit_zero up a b z xs (lengths_of t) (sound n t) (graph_in n t.links) c.0 in
    rw c.1 (switched_right up n a b t true good.0 good.1)

-- ---- the soundness check, and a radio's number

pub site_right : (n : ℕ) (t : Tables) → length t.numbers ≡ n → (sound n t ≡ true) ↔ SiteRight n t
unfolding sound graph_in
site_right n t long =
    let g = graph_in n t.links in
    let iff = sound_iff max_neighbours n t long in (
      λ h. let s = iff.0 h in record { rows = s.rows; right = numbers_right g t s.core_numbers s.k_order },
      λ s. iff.1 (record {
        rows = s.rows;
        core_numbers = ext_get_or 0 t.numbers (numbers g) (long ∙ sym (length_numbers g))
            (λ x l. let k : x < n = omega arith in sym (number_unique g x _ k (s.right.cores x k)) ∙ sym (get_d_numbers g x k));
        k_order = s.right.k_order;
      }),
    )

-- a call that answers a value, accepted
pub value_is : (R x : ℕ) → (value_outcome R x).number ≡ 0 → (R ≡ 0) × (value_outcome R x ≡ value 0 x)
unfolding value_outcome
value_is R x z = accepted_is (λ (o : Value). o.number) (value_outcome R x) R _ _ (λ q. refl) refl z

pub check_right : (n : ℕ) (t : Tables) → let o = check_outcome n t in o.number ≡ 0 → (o.value ≡ 1) ↔ SiteRight n t
unfolding check_outcome tables_refusal lengths_of sound
check_right n t z =
    let c = value_is (tables_refusal n (lengths_of t)) (cond (sound n t) 1 0) z in
    let iff = site_right n t (lent_zero n (lengths_of t) true 0 c.0).0.lengths.numbers in
    rw c.1 (λ e. iff.0 (yes (sound n t) e), λ s. rw (iff.1 s) refl)
  where
    yes : (b : Bool) → cond {A = ℕ} b 1 0 ≡ 1 → b ≡ true
    yes true e = refl
    yes false e = absurd (omega arith)

pub number_right : (n v : ℕ) (t : Tables) → let o = number_outcome n v t in o.number ≡ 0 → Core (graph_in n t.links) v o.value
unfolding number_outcome sound graph_in
number_right n v t z =
    let g = graph_in n t.links in
    let c = value_is (radio_refusal n v (lengths_of t) (sound n t)) (number g v) z in
    rw c.1 (number_core g v (radio_zero n v (lengths_of t) (sound n t) c.0).1)

pub later_right :
    (n v : ℕ) (t : Tables) → let o = later_outcome n v t in
    o.number ≡ 0 → LaterRight (graph_in n t.links) v t.order o.count o.first
unfolding later_outcome sound graph_in
later_right n v t z =
    let f = linked (graph_in n t.links) in
    let c = accepted_is (λ (o : Later). o.number) (later_outcome n v t) _ _ _ (λ q. refl) refl z in
    let good = (radio_zero n v (lengths_of t) (sound n t) c.0).0 in
    let valid = valid_graph_in max_neighbours n t good.lent.most good.is_sound in
    let once = (k_order_certificate (graph_in n t.links) t.order valid.k_order).once in
    let small : (u : ℕ) → In u t.order → u < nobody = λ u m. omega (arith, once_below n t.order once u m, good.lent.most) in
    rw c.1 (record { counted = refl; some = first_is_first f v t.order; none = nobody_none f v t.order small })

-- ---- connected cores and the backbone

-- a call that lists, accepted
pub listing_is :
    (R x : ℕ) (new old : List ℕ) → (listing_outcome R x new old).reply.number ≡ 0 →
    (R ≡ 0) × (listing_outcome R x new old ≡ listing (value 0 x) (overwrite new old))
unfolding listing_outcome
listing_is R x new old z = accepted_is (λ (o : Listing Value (List ℕ)). o.reply.number) (listing_outcome R x new old) R _ _ (λ q. refl) refl z

pub core_right :
    (n v k : ℕ) (t : Tables) (w : List ℕ) → let o = core_outcome n v k t w in
    o.reply.number ≡ 0 → RadiosListed (InCore (graph_in n t.links) v k) o.reply.value w o.lent
unfolding core_outcome sound graph_in
core_right n v k t w z =
    let g = graph_in n t.links in
    let new = core_of g v k in
    let c = listing_is (core_refusal n v k (lengths_of t) (length w) (sound n t) g) (length new) new w z in
    let good = core_zero n v k (lengths_of t) (length w) (sound n t) g c.0 in
    rw c.1 (record { exactly = rw (take_overwrite new w) (core_of_iff g v k good.1); listed = listed_front new w (core_ascending g v k good.1) })

pub backbone_right :
    (n : ℕ) (t : Tables) (w : List ℕ) → let o = backbone_outcome n t w in
    o.reply.number ≡ 0 → RadiosListed (InBackbone (graph_in n t.links)) o.reply.value w o.lent
unfolding backbone_outcome sound
backbone_right n t w z =
    let g = graph_in n t.links in
    let new = backbone g in
    let c = listing_is (backbone_refusal n (lengths_of t) (length w) (sound n t)) (length new) new w z in
    rw c.1 (record { exactly = rw (take_overwrite new w) (backbone_iff g); listed = listed_front new w (backbone_ascending g) })

-- ---- the shell tree

length_node_names : (g : Graph) → length (node_names g) ≡ g.n
unfolding node_names radios
length_node_names g = length-map (node_name g) (range 0 g.n) ∙ length_range 0 g.n

get_d_node_names : (g : Graph) (w : List ℕ) (v : ℕ) → v < g.n → get_or (overwrite (node_names g) w) v 0 ≡ node_name g v
unfolding overwrite node_names radios
get_d_node_names g w v l =
    List·getD-append (node_names g) (drop (length (node_names g)) w) 0 v (omega (arith, length_node_names g))
    ∙ get_d_map_range 0 (node_name g) 0 g.n v l ∙ ap (node_name g) (omega arith)

listed_tree : (g : Graph) (m : List Node) (w : List ℕ) → TreeListed g (length (tree g)) m (overwrite (tree g) m) w (overwrite (node_names g) w)
listed_tree g m w = record {
  nodes = λ xs. rw (take_overwrite (tree g) m) (tree_iff g xs);
  later_nodes = drop_overwrite (tree g) m;
  names = λ v l y. rw (get_d_node_names g w v l) (node_name_iff g v l y);
  later_entries =
      let e : length (node_names g) ≡ g.n = length_node_names g in
      subst (λ (k : ℕ). drop k (overwrite (node_names g) w) ≡ drop k w) e (drop_overwrite (node_names g) w);
}

pub tree_right_listed :
    (n : ℕ) (t : Tables) (m : List Node) (w : List ℕ) → let o = tree_outcome n t m w in
    o.reply.number ≡ 0 → TreeListed (graph_in n t.links) o.reply.value m o.lent.0 w o.lent.1
unfolding tree_outcome
tree_right_listed n t m w z =
    let c = accepted_is (λ (o : Listing Value (List Node × List ℕ)). o.reply.number) (tree_outcome n t m w) _ _ _ (λ q. refl) refl z in
    rw c.1 (listed_tree (graph_in n t.links) m w)

-- ---- the site sheet

pub sheet_right :
    (n : ℕ) (t : Tables) (w : List ℕ) → let o = sheet_outcome n t w in o.reply.number ≡ 0 → SheetRight n t o.reply.value w o.lent
unfolding sheet_outcome sheet_length lengths_of sound
sheet_right n t w z =
    let new = sheet t.numbers in
    let c = listing_is (sheet_refusal n (lengths_of t) (length w) (sound n t)) (sheet_length n) new w z in
    let good = (sheet_zero n (lengths_of t) (length w) (sound n t) c.0).0 in
    let long = good.lent.lengths.numbers in
    let fit = sheet_fits n t long good.is_sound good.lent.most in
    let size : sheet_length n ≡ length new = ap sheet_length (sym long) ∙ sym (length_sheet t.numbers fit) in
    rw c.1 (record {
      long = refl;
      page = ap (λ (i : ℕ). take i (overwrite new w)) size ∙ take_overwrite new w;
      columns = columns_by n t long good.is_sound (overwrite new w) (columns_front t.numbers fit w);
      later_bytes = rw size (drop_overwrite new w);
    })

-- ---- images

-- the bytes written
module _ (n : ℕ) (t : Tables) (w : List ℕ) (z : (write_outcome n t w).reply.number ≡ 0) where
  abbrev g : Graph
  g = graph_in n t.links

  abbrev written : List ℕ
  written = image_of g t.order

  given :
      (write_refusal n (lengths_of t) (length w) (sound n t) g ≡ 0) × (write_outcome n t w ≡ listing (value 0 (image_length g)) (overwrite written w))
  unfolding write_outcome sound
  given = listing_is (write_refusal n (lengths_of t) (length w) (sound n t) g) (image_length g) written w z

  good : SiteGood n (lengths_of t) true (sound n t)
  good = (write_zero n (lengths_of t) (length w) (sound n t) g given.0).0

  -- the value is the image's length
  size : image_length g ≡ length written
  unfolding image_length
  size = sym (length_image_of g t.order)

  bytes_written : take (write_outcome n t w).reply.value (write_outcome n t w).lent ≡ written
  bytes_written = rw (given.1, size) (take_overwrite written w)

  read_accepts : (u : Tables) → lengths_of u ≡ lengths_of t → read_refusal n (lengths_of u) written ≡ 0
  read_accepts u e =
      rw e (read_yes n (lengths_of t) written good.lent
      (record { whole = whole_blocks_image_of g t.order; checks = checks_good_image_of g t.order })
      (is_image_sound n t good.lent.most good.is_sound))

  pub write_right : WrittenRight n t (write_outcome n t w).reply.value w (write_outcome n t w).lent
  write_right = record {
    image = bytes_written;
    is_image = rw bytes_written ((is_image_tables n written good.lent.most).0 (is_image_sound n t good.lent.most good.is_sound));
    later_bytes = rw (given.1, size) (drop_overwrite written w);
  }

  -- tables of these lengths, as question 2 has them
  sized : EntriesBelow 256 t.links → TablesOfSize n t
  unfolding lengths_of
  sized bytes = record {
    links_length = good.lent.lengths.links;
    numbers_length = good.lent.lengths.numbers;
    order_length = good.lent.lengths.order;
    links_bytes = bytes;
  }

  -- the same tables come back
  pub read_what_was_written :
      EntriesBelow 256 t.links → (u : Tables) → lengths_of u ≡ lengths_of t →
      read_outcome n (take (write_outcome n t w).reply.value (write_outcome n t w).lent) u ≡ tabled 0 t
  unfolding read_outcome
  read_what_was_written bytes u e =
      rw bytes_written (by_zero _ _ _ (read_accepts u e) refl)
      ∙ ap (tabled 0) (tables_read_written n t good.lent.most (sized bytes) good.is_sound)

pub read_right : (n : ℕ) (bs : List ℕ) (t : Tables) → let o = read_outcome n bs t in o.reply ≡ 0 → ReadRight n bs o.tables
unfolding read_outcome image_graph tables_of sound
read_right n bs t z =
    let c = accepted_is (λ (o : Tabled ℕ). o.reply) (read_outcome n bs t) _ _ _ (λ q. refl) refl z in
    let a = read_zero n (lengths_of t) bs c.0 in
    let g = image_graph n bs in
    let xs = image_order n bs in
    let valid : Valid max_neighbours g xs = image_valid n bs a.0.most a.2 in
    rw c.1 (record {
      is_sound = valid_sound max_neighbours g xs a.0.most valid;
      graph = graph_in_links_table g a.0.most valid.links_proper valid.links_ascending;
      right = numbers_right g (tables_of g xs) refl valid.k_order;
      same_bytes = written_read n bs a.2;
    })

-- ---- the block reader

block_given :
    (there : Bool) (bs : List ℕ) (i : ℕ) → ltb i (length bs / block_bytes) ≡ there → let o = block_or_end there i in
    BlockPart bs i o ⊎ BlockEnd bs i o
unfolding block_or_end payload_at
block_given true bs i e =
    let l : i < length bs / block_bytes = ltb-true i (length bs / block_bytes) e in
    inl (record { is_block = l; not_end = refl; starts = refl; long = refl; inside = omega arith; payload = refl; moves = refl })
block_given false bs i e = inr (record { past = ltb-false i (length bs / block_bytes) e; none = refl })

pub block_right : (bs : List ℕ) (i : ℕ) → let o = block_outcome bs i in o.number ≡ 0 → BlockPart bs i o ⊎ BlockEnd bs i o
unfolding block_outcome no_block
block_right bs i z =
    let c = accepted_is (λ (o : Block). o.number) (block_outcome bs i) _ _ _ (λ q. refl) refl z in
    rw c.1 (block_given _ bs i refl)
