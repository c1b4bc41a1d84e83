-- How the view of a seat changes with each kind of step, and where seats are cut and joined.
use Rattle.std.specs.Prelude.{ℕ, ◌+◌, ◌-◌, List, ◌++◌, max, None}
use Rattle.join_board.specs.Entries.{Entry}
use Rattle.join_board.specs.Logs.{size, spawned, finished, sights, new_keys}
use Rattle.join_board.specs.Views.{opened_view}
use Rattle.join_board.specs.declared.view.View.{View}
use Rattle.join_board.specs.declared.view.Live.{Live}
use Rattle.join_board.specs.declared.view.Keys.{Keys}
use Rattle.join_board.specs.declared.view.Stop.{Stop}

abbrev pub spent_view : View
spent_view = opened_view (record { job = None; quantum = 0; opened = 0; limit = 0 }) 0

abbrev pub left : View → View
left v = record v { seats = v.seats - 1 }

abbrev pub right : View → View
right v = opened_view v.about 1

abbrev pub both_live : Live → Live → Live
both_live a b = record { ahead = a.ahead + b.ahead; behind = a.behind + b.behind; alive = a.alive + b.alive; over = a.over + b.over }

abbrev pub both_keys : Keys → Keys → Keys
both_keys a b = record { parked = a.parked ++ b.parked; handed = a.handed ++ b.handed }

abbrev pub both_stop : Stop → Stop → Stop
both_stop a b = record {
  most = max a.most b.most;
  unset = a.unset + b.unset;
  asked_limit = a.asked_limit + b.asked_limit;
  asked_memory = a.asked_memory + b.asked_memory;
  found_limit = a.found_limit + b.found_limit;
  found_memory = a.found_memory + b.found_memory;
}

-- the first takes over all that the second has seen, found and asked for
abbrev pub both : View → View → View
both v w = record v {
  seats = v.seats + w.seats;
  own = v.own + w.own;
  uncounted = v.uncounted + w.uncounted;
  hand = record v.hand { taken = v.hand.taken + w.hand.taken; missed = v.hand.missed + w.hand.missed };
  seen = v.seen ++ w.seen;
  live = both_live v.live w.live;
  keys = both_keys v.keys w.keys;
  stop = both_stop v.stop w.stop;
}

abbrev pub took_view : View → ℕ → List Entry → View
took_view v k x = record v { hand = record v.hand { taken = v.hand.taken + 1; last = k; hand = k + 1; copy = x }; seen = v.seen ++ sights x }

abbrev pub missed_view : View → ℕ → View
missed_view v k = record v { hand = record v.hand { missed = v.hand.missed + 1; last_missed = k } }

-- the tasks that were parked and handed out between a take and a give
abbrev pub given_keys : View → List Entry → Keys
given_keys v x = record { parked = v.keys.parked ++ new_keys v.hand.copy x; handed = v.keys.handed ++ new_keys x v.hand.copy }

abbrev pub gave_view : View → List Entry → View
gave_view v x = record v {
  own = v.own + (size x - size v.hand.copy);
  uncounted = v.uncounted + (size x - size v.hand.copy);
  hand = record v.hand { hand = 0 };
  seen = v.seen ++ sights x;
  live = record v.live { ahead = v.live.ahead - (spawned x - spawned v.hand.copy); behind = v.live.behind + (finished x - finished v.hand.copy) };
  keys = given_keys v x;
}

-- the shard went back as it was taken
abbrev pub back_view : View → View
back_view v = record v { hand = record v.hand { hand = 0 }; seen = v.seen ++ sights v.hand.copy }

abbrev pub ahead_view : View → ℕ → View
ahead_view v n = record v { live = record v.live { ahead = n } }

abbrev pub behind_view : View → ℕ → View
behind_view v n = record v { live = record v.live { behind = n } }

-- the shard went back with no step of the core
abbrev pub quiet_view : View → List Entry → View
quiet_view v x = record v { hand = record v.hand { hand = 0 }; seen = v.seen ++ sights x; keys = given_keys v x }

-- after a commit: the shard is given, and the seat is neither ahead nor behind
abbrev pub settled_view : View → List Entry → View
settled_view v x = record (gave_view v x) { live = record v.live { ahead = 0; behind = 0 } }

abbrev pub added_view : View → View
added_view v = ahead_view v 1

abbrev pub subtracted_view : View → View
subtracted_view v = behind_view v 0

abbrev pub alive_view : View → View
alive_view v = record v { live = record v.live { alive = v.live.alive + 1 } }

abbrev pub over_view : View → View
over_view v = record v { live = record v.live { over = v.live.over + 1 } }

abbrev pub counted_view : View → ℕ → View
counted_view v n = record v { uncounted = 0; stop = record v.stop { most = n + v.uncounted } }

abbrev pub asked_limit_view : View → View
asked_limit_view v = record v { stop = record v.stop { asked_limit = v.stop.asked_limit + 1 } }

abbrev pub asked_memory_view : View → View
asked_memory_view v = record v { stop = record v.stop { asked_memory = v.stop.asked_memory + 1 } }

abbrev pub unset_view : View → View
unset_view v = record v { stop = record v.stop { unset = v.stop.unset + 1 } }

abbrev pub found_limit_view : View → View
found_limit_view v = record v { stop = record v.stop { found_limit = v.stop.found_limit + 1 } }

abbrev pub found_memory_view : View → View
found_memory_view v = record v { stop = record v.stop { found_memory = v.stop.found_memory + 1 } }
