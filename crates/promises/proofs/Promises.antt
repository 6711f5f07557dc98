-- The promises of the engine, proved: `promises`, the statement of specs/Statement.antt over the routines of the exported calls.
use Rattle.std.specs.Prelude.{◌≡◌, ◌*◌, ◌≤◌}
use Rattle.lists.specs.Kit.{sym, ap, ℕ, arith, List, length}
use mir.Val.{Val}
use prog.Memory.{Memory}
use Rattle.machine.proofs.Made.{made_ready, ran_one}
use Rattle.hosts.{specs.Public.{reader_step, call}, proofs.Hosts.{hosts_demand, standing_demand}, proofs.Made.{hosts_exist}}
use Rattle.mesh.{specs.Limits.{max_neighbours}, specs.Tables.{Tables, graph_in}, specs.Sound.{sound}, specs.Image.{block_bytes, image_of}}
use Rattle.mesh.{proofs.Tables.DegreeSum.{block_count_most}, proofs.Images.Tables.{valid_graph_in}, proofs.Cores.Peeling.{number_core, number_unique}}
use Rattle.mesh.{proofs.Trees.Listed.{backbone_one_part}, proofs.Images.OtherSize.{other_size_iff}, proofs.Marks.Rules.{store_good_iff}}
use Rattle.calls.{specs.Questions.{lengths_of, image_length}, specs.Outcomes.{write_outcome}, proofs.ChainLaws.{write_zero}}
use Rattle.calls.{proofs.Refusals.{value_keeps, listing_keeps, store_keeps, clear_keeps, read_keeps, return_keeps, link_keeps, commit_keeps, hear_keeps}}
use Rattle.calls.{proofs.Refusals.{later_keeps, lift_keeps, ask_keeps, tree_keeps, block_keeps}, proofs.Accepted.{check_right, link_right, number_right}}
use Rattle.calls.{proofs.Accepted.{later_right, core_right, backbone_right, tree_right_listed, write_right, listing_is, ask_right, commit_right}}
use Rattle.calls.{proofs.Accepted.{read_what_was_written, read_right, block_right, sheet_right}, proofs.Batches.{batch_keeps, batch_right, batch_single}}
use Rattle.calls.{proofs.HeardCalls.{hear_right}, proofs.ScriptLaws.{script_right, script_beforehand}, proofs.Proposals.{two_steps, refused_step, commit_iff}}
use Rattle.calls.{proofs.Proposals.{commit_number}, proofs.ImageNumbers.{eleven_iff, read_eleven}, proofs.MarkCalls.{set_right, removed_right, other_marks}}
use Rattle.calls.{proofs.MarkCalls.{return_right, return_restores}, proofs.Older.{older}, proofs.WholeList.{demand_3}, proofs.Exactly.{exactly_listed}}
use Rattle.calls.{proofs.HistoryRestored.{restored_list}}
use Rattle.walks.proofs.{Kept.{link_begins, commit_begins}, Each.{batch_begins, hear_begins}}
use Rattle.forests.proofs.Tree.{staircase_right}
use Rattle.lifting.proofs.Answers.{lift_core, lift_right, lift_none}
use Rattle.hubs.proofs.{Confluence.{confluence, calls_agree}, Differ.{orders_differ, images_differ}}
use Rattle.playback.proofs.ScriptPlays.{written_plays}
use Rattle.block_reader.proofs.Runs.{part_stands}
use Rattle.summerbugle.proofs.World.{routines, runs}
use Rattle.promises.specs.Statement.{Refusals, Property1, Property2, Property3, Statement}
use Rattle.promises.specs.Statement as statement
use Rattle.calls.specs.Chains.{write_refusal}

-- W-208: every image of sound tables has at most 86 blocks
blocks_most :
    (n : ℕ) (t : Tables) (w : List ℕ) → let o = write_outcome n t w in o.reply.number ≡ 0 → o.reply.value ≤ 86 * block_bytes
unfolding write_outcome image_length graph_in sound
blocks_most n t w z =
    let g = graph_in n t.links in
    let R = write_refusal n (lengths_of t) (length w) (sound n t) g in
    let c = listing_is R (image_length g) (image_of g t.order) w z in
    let good = (write_zero n (lengths_of t) (length w) (sound n t) g c.0).0 in
    let most = block_count_most g t.order good.lent.most (valid_graph_in max_neighbours n t good.lent.most good.is_sound) in
    rw c.1 (omega (arith, most))

refusals : Refusals
refusals = record {
  values = value_keeps;
  listings = listing_keeps;
  stores = store_keeps;
  clear = clear_keeps;
  image_read = read_keeps;
  link = link_keeps;
  ask = ask_keeps;
  commit = commit_keeps;
  link_batch = batch_keeps;
  hear = hear_keeps;
  later_of = later_keeps;
  lift = lift_keeps;
  tree = tree_keeps;
  mark_return = return_keeps;
  image_block = block_keeps;
}

property_1 : Property1 routines
property_1 = record {
  runs = runs;
  only = λ x σ i h steps end e.
      let one = ran_one (routines x) (call x) σ i h steps end e in
      (sym (ap (λ (y : Val × Memory). y.0) one), sym (ap (λ (y : Val × Memory). y.1) one));
  ready = made_ready;
  refused = refusals;
  reader_part = part_stands (routines reader_step);
}

property_2 : Property2
property_2 = record {
  largest_group = λ g v k l. (λ c. number_unique g v k l c, λ e. rw (← e) (number_core g v l));
  link = link_right;
  check = check_right;
  number = number_right;
  core = core_right;
  tree = tree_right_listed;
  image_written = write_right;
  image_read_back = read_what_was_written;
  image_read = read_right;
  block = block_right;
}

property_3 : Property3 routines
property_3 = record {
  demand = demand_3;
  hosts = hosts_demand routines runs;
  hosts_standing = standing_demand routines runs;
  hosts_exist = hosts_exist routines runs;
  exactly = exactly_listed;
}

pub promises : Statement routines
promises = record {
  first = property_1;
  second = property_2;
  third = property_3;
  w_201 = record { sheet = sheet_right };
  w_202 = record { backbone = backbone_right; one_part = backbone_one_part };
  w_203 = record { script = script_right; beforehand = script_beforehand; plays = written_plays };
  w_205 = record { hear = hear_right };
  w_206 = record { later_of = later_right };
  w_207 = record { answered = read_eleven; other_size = other_size_iff; of_none = eleven_iff };
  w_208 = record { older = older; blocks_most = blocks_most };
  w_209 = record { staircase = staircase_right };
  w_210 = record {
    ask = ask_right;
    commit = commit_right;
    two_steps = two_steps;
    refused_step = refused_step;
    commit_iff = commit_iff;
    commit_number = commit_number;
  };
  w_211 = record {
    store_good = store_good_iff;
    mark_set = set_right;
    mark_remove = removed_right;
    other_marks = other_marks;
    mark_return = return_right;
    return_restores = return_restores;
    restored = restored_list;
  };
  w_212 = record { lift = lift_right; lift_core = lift_core; lift_none = lift_none };
  w_213 = record {
    link_begins = link_begins;
    commit_begins = commit_begins;
    batch_begins = batch_begins;
    hear_begins = hear_begins;
    link_batch = batch_right;
    batch_single = batch_single;
  };
  w_214 = record { confluence = confluence; calls_agree = calls_agree; orders_differ = orders_differ; images_differ = images_differ };
}
