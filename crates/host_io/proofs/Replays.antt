-- What entries stand for as a log grows.
use Rattle.std.proofs.Common.{◌≡◌, ℕ, ◌+◌, ◌-◌, ◌<◌, ◌≤◌, List, [], ◌∷◌, ◌++◌, length, take, drop, max, refl, sym, ◌∙◌, ap, subst, arith, length-append, length-drop, length-take, replicate, Vec, vec_len, vec_capacity}
use Rattle.std.proofs.lemmas.List.{append-nil, take-append-le, drop-append-le, drop_at, take_all, length_push, length-replicate}
use Rattle.std.specs.declared.alloc.Global.{Global}
use Rattle.host_io.specs.Disk.{DiskState, settled}
use Rattle.host_io.specs.Outside.{Moment}
use Rattle.host_io.specs.Calls.{put_bytes}
use Rattle.host_io.specs.Memory.{Trail, left_by, written, extended, recorded}
use Rattle.host_io.specs.declared.fault.Effect.{Effect}
use Rattle.host_io.specs.declared.fault.Effect.TheVariants.{Nothing, Whole, Ones}
use Rattle.host_io.specs.Log.{piece_bytes, disk_after, said_after, next_moment, replayed, disk_at, first_trail, WriteFits, WritesFit, SayFits, SaysFit, history_of, IsLog}
use Rattle.host_io.specs.declared.entry.Piece.{Piece}
use Rattle.host_io.specs.declared.entry.Event.{Event}
use Rattle.host_io.specs.declared.entry.Event.TheVariants.{Write, Sync, Say}
use Rattle.host_io.specs.declared.entry.Entry.{Entry}

-- one entry more
pub replayed-push : (all said : List ℕ) (trail : Trail) (entries : List Entry) (entry : Entry)
    → replayed all said trail (entries ++ entry ∷ []) ≡ extended entry.calls (next_moment all said entry.event (replayed all said trail entries).latest.moment) (replayed all said trail entries)
replayed-push all said trail [] entry = refl
replayed-push all said trail (e ∷ entries) entry =
    replayed-push all said (extended e.calls (next_moment all said e.event trail.latest.moment) trail) entries entry

pub disk-replayed : (all said : List ℕ) (trail : Trail) (entries : List Entry) → (replayed all said trail entries).latest.moment.disk ≡ disk_at all trail.latest.moment.disk entries
disk-replayed all said trail [] = refl
disk-replayed all said trail (e ∷ entries) =
    disk-replayed all said (extended e.calls (next_moment all said e.event trail.latest.moment) trail) entries

pub disk_at-push : (all : List ℕ) (disk : DiskState) (entries : List Entry) (entry : Entry) → disk_at all disk (entries ++ entry ∷ []) ≡ disk_after all entry.event (disk_at all disk entries)
disk_at-push all disk [] entry = refl
disk_at-push all disk (e ∷ entries) entry = disk_at-push all (disk_after all e.event disk) entries entry

pub WritesFit-push : (all : List ℕ) (disk : DiskState) (entries : List Entry) (entry : Entry) → WritesFit all disk entries → WriteFits all (disk_at all disk entries) entry.event → WritesFit all disk (entries ++ entry ∷ [])
WritesFit-push all disk [] entry fit last = (last, tt)
WritesFit-push all disk (e ∷ entries) entry fit last = (fit.0, WritesFit-push all (disk_after all e.event disk) entries entry fit.1 last)

pub SaysFit-push : (said : List ℕ) (entries : List Entry) (entry : Entry) → SaysFit said entries → SayFits said entry.event → SaysFit said (entries ++ entry ∷ [])
SaysFit-push said [] entry fit last = (last, tt)
SaysFit-push said (e ∷ entries) entry fit last = (fit.0, SaysFit-push said entries entry fit.1 last)

piece_bytes-append : (all more : List ℕ) (piece : Piece) → piece.from + piece.count ≤ length all → piece_bytes (all ++ more) piece ≡ piece_bytes all piece
piece_bytes-append all more piece fit =
    let behind : drop piece.from (all ++ more) ≡ drop piece.from all ++ more = drop-append-le piece.from all more (omega arith) in
    let within : piece.count ≤ length (drop piece.from all) = omega (arith, length-drop piece.from all) in
    ap (λ (l : List ℕ). take piece.count l) behind ∙ take-append-le piece.count (drop piece.from all) more within

disk_after-append : (all more : List ℕ) (disk : DiskState) (event : Event) → WriteFits all disk event → disk_after (all ++ more) event disk ≡ disk_after all event disk
disk_after-append all more disk (Write piece) fit = ap (λ (l : List ℕ). written piece.left piece.at l disk) (piece_bytes-append all more piece fit.0)
disk_after-append all more disk Sync fit = refl
disk_after-append all more disk (Say end) fit = refl

said_after-append : (said more : List ℕ) (event : Event) (before : List ℕ) → SayFits said event → said_after (said ++ more) event before ≡ said_after said event before
said_after-append said more (Write piece) before fit = refl
said_after-append said more Sync before fit = refl
said_after-append said more (Say end) before fit = take-append-le end said more fit

WriteFits-append : (all more : List ℕ) (disk : DiskState) (event : Event) → WriteFits all disk event → WriteFits (all ++ more) disk event
WriteFits-append all more disk (Write piece) fit = (omega (arith, length-append all more, fit.0), fit.1)
WriteFits-append all more disk Sync fit = tt
WriteFits-append all more disk (Say end) fit = tt

pub WritesFit-append : (all more : List ℕ) (disk : DiskState) (entries : List Entry) → WritesFit all disk entries → WritesFit (all ++ more) disk entries
WritesFit-append all more disk [] fit = tt
WritesFit-append all more disk (e ∷ entries) fit = (
  WriteFits-append all more disk e.event fit.0,
  subst (λ (d : DiskState). WritesFit (all ++ more) d entries) (sym (disk_after-append all more disk e.event fit.0)) (WritesFit-append all more (disk_after all e.event disk) entries fit.1),
)

SayFits-append : (said more : List ℕ) (event : Event) → SayFits said event → SayFits (said ++ more) event
SayFits-append said more (Write piece) fit = tt
SayFits-append said more Sync fit = tt
SayFits-append said more (Say end) fit = omega (arith, length-append said more, fit)

pub SaysFit-append : (said more : List ℕ) (entries : List Entry) → SaysFit said entries → SaysFit (said ++ more) entries
SaysFit-append said more [] fit = tt
SaysFit-append said more (e ∷ entries) fit = (SayFits-append said more e.event fit.0, SaysFit-append said more entries fit.1)

-- what comes behind changes nothing of what the entries so far stand for
pub replayed-append : (all more said more_said : List ℕ) (trail : Trail) (entries : List Entry) → WritesFit all trail.latest.moment.disk entries → SaysFit said entries → replayed (all ++ more) (said ++ more_said) trail entries ≡ replayed all said trail entries
replayed-append all more said more_said trail [] fit says = refl
replayed-append all more said more_said trail (e ∷ entries) fit says =
    let moment = trail.latest.moment in
    let same : next_moment (all ++ more) (said ++ more_said) e.event moment ≡ next_moment all said e.event moment =
    (let disks = disk_after-append all more moment.disk e.event fit.0 in let saids = said_after-append said more_said e.event moment.said says.0 in cc) in
    ap (λ (m : Moment). replayed (all ++ more) (said ++ more_said) (extended e.calls m trail) entries) same
    ∙ replayed-append all more said more_said (extended e.calls (next_moment all said e.event moment) trail) entries fit.1 says.1

length-put_bytes : (file : List ℕ) (place : ℕ) (bytes : List ℕ) → place ≤ length file → length (put_bytes file place bytes) ≡ max (length file) (place + length bytes)
length-put_bytes file place bytes within =
    omega (arith, length-append (take place file ++ bytes) (drop (place + length bytes) file), length-append (take place file) bytes, length-drop (place + length bytes) file, length-take place file)

left_by-longer : (left : Effect) (place : ℕ) (bytes file : List ℕ) → place ≤ length file → length (left_by left place bytes file) ≤ length file + length bytes
left_by-longer Nothing place bytes file within = omega arith
left_by-longer Whole place bytes file within = omega (arith, length-put_bytes file place bytes within)
left_by-longer Ones place bytes file within =
    omega (arith, length-put_bytes file place (replicate (length bytes) 255) within, length-replicate {A = ℕ} (length bytes) 255)

-- a log with one entry more, for which these bytes were written and these said
module _ (image all more said more_said : List ℕ) (entries : List Entry) (entry : Entry) where
  abbrev pub now : Moment
  now = (replayed all said (first_trail image) entries).latest.moment

  abbrev pub next : Moment
  next = next_moment (all ++ more) (said ++ more_said) entry.event now

  pub replayed-grown : WritesFit all (settled image) entries → SaysFit said entries
      → replayed (all ++ more) (said ++ more_said) (first_trail image) (entries ++ entry ∷ []) ≡ extended entry.calls next (replayed all said (first_trail image) entries)
  replayed-grown fit says =
      replayed-push (all ++ more) (said ++ more_said) (first_trail image) entries entry
      ∙ ap (λ (t : Trail). extended entry.calls (next_moment (all ++ more) (said ++ more_said) entry.event t.latest.moment) t) (replayed-append all more said more_said (first_trail image) entries fit says)

  pub WritesFit-grown : WritesFit all (settled image) entries → SaysFit said entries → WriteFits (all ++ more) now.disk entry.event → WritesFit (all ++ more) (settled image) (entries ++ entry ∷ [])
  WritesFit-grown fit says last =
      let disks : disk_at (all ++ more) (settled image) entries ≡ now.disk =
      sym (disk-replayed (all ++ more) (said ++ more_said) (first_trail image) entries) ∙ ap (λ (t : Trail). t.latest.moment.disk) (replayed-append all more said more_said (first_trail image) entries fit says) in
      WritesFit-push (all ++ more) (settled image) entries entry (WritesFit-append all more (settled image) entries fit)
      (subst (λ (d : DiskState). WriteFits (all ++ more) d entry.event) (sym disks) last)

-- a log's parts before and after one entry more
pub record Grows (image seen seen' all all' said said' : Vec ℕ Global) (entries entries' : Vec Entry Global) (room bytes : ℕ) (entry : Entry) (more more_said : List ℕ) (moment : Moment) : Type 0 where
  pub log : IsLog image seen all said entries room
  pub all_is : all'.items ≡ all.items ++ more
  pub said_is : said'.items ≡ said.items ++ more_said
  pub entries_is : entries'.items ≡ entries.items ++ entry ∷ []
  pub write : WriteFits (all.items ++ more) (now image.items all.items more said.items more_said entries.items entry).disk entry.event
  pub say : SayFits (said.items ++ more_said) entry.event
  pub moment_is : next image.items all.items more said.items more_said entries.items entry ≡ moment
  pub seen_is : moment.disk.seen ≡ seen'.items
  pub said_now : moment.said ≡ said'.items
  pub bytes_are : length more + length more_said ≡ bytes
  pub moments_left : 0 < room - length entries.items
  pub bytes_left : bytes ≤ room - (length all.items + length said.items)
  pub entries_room : vec_capacity entries ≤ vec_capacity entries'
  pub all_room : vec_capacity all ≤ vec_capacity all'
  pub said_room : vec_capacity said ≤ vec_capacity said'
  pub seen_room : vec_capacity seen ≤ vec_capacity seen'
  pub seen_grows : length seen'.items ≤ length seen.items + bytes

module _ {image seen seen' all all' said said' : Vec ℕ Global} {entries entries' : Vec Entry Global} {room bytes : ℕ} {entry : Entry} {more more_said : List ℕ} {moment : Moment}
    (g : Grows image seen seen' all all' said said' entries entries' room bytes entry more more_said moment) where
  trail_is : replayed all'.items said'.items (first_trail image.items) entries'.items ≡ extended entry.calls moment (replayed all.items said.items (first_trail image.items) entries.items)
  trail_is = rw (g.all_is, g.said_is, g.entries_is, ← g.moment_is) (replayed-grown image.items all.items more said.items more_said entries.items entry g.log.writes g.log.says)

  pub history-grown : history_of image.items all'.items said'.items entries'.items room ≡ recorded entry.calls moment bytes (history_of image.items all.items said.items entries.items room)
  history-grown =
      let moments : room - length entries'.items ≡ (room - length entries.items) - 1 = rw g.entries_is (omega (arith, length_push entries.items entry)) in
      let rest : room - (length all'.items + length said'.items) ≡ (room - (length all.items + length said.items)) - bytes =
      rw (g.all_is, g.said_is) (omega (arith, length-append all.items more, length-append said.items more_said, g.bytes_are)) in
      let trails = trail_is in cc

  pub IsLog-grown : IsLog image seen' all' said' entries' room
  IsLog-grown =
      let alls : length all'.items ≡ length all.items + length more = rw g.all_is (length-append all.items more) in
      let saids : length said'.items ≡ length said.items + length more_said = rw g.said_is (length-append said.items more_said) in
      let count : length entries'.items ≡ length entries.items + 1 = rw g.entries_is (length_push entries.items entry) in record {
        writes = rw (g.all_is, g.entries_is) (WritesFit-grown image.items all.items more said.items more_said entries.items entry g.log.writes g.log.says g.write);
        says = rw (g.said_is, g.entries_is) (SaysFit-push (said.items ++ more_said) entries.items entry (SaysFit-append said.items more_said entries.items g.log.says) g.say);
        is_seen = ap (λ (t : Trail). t.latest.moment.disk.seen) trail_is ∙ g.seen_is;
        is_said = ap (λ (t : Trail). t.latest.moment.said) trail_is ∙ g.said_now;
        moments = omega (arith, g.moments_left, g.log.moments);
        bytes = omega (arith, g.bytes_left, g.bytes_are, g.log.bytes);
        entries_room = omega (arith, g.entries_room, g.log.entries_room);
        all_room = omega (arith, g.all_room, g.log.all_room);
        said_room = omega (arith, g.said_room, g.log.said_room);
        seen_room = omega (arith, g.seen_room, g.log.seen_room, g.seen_grows, g.bytes_left, g.bytes_are, g.log.bytes);
      }

-- the moment at which a log stands
abbrev pub latest_of : List ℕ → List ℕ → List ℕ → List Entry → Moment
latest_of image all said entries = (replayed all said (first_trail image) entries).latest.moment

-- the three ways that a log grows
pub Grows-sync : {image seen all said : Vec ℕ Global} {entries entries' : Vec Entry Global} {room calls : ℕ} → IsLog image seen all said entries room → entries'.items ≡ entries.items ++ (record { calls = calls; event = Sync }) ∷ []
    → 0 < room - length entries.items → vec_capacity entries' ≡ vec_capacity entries
    → Grows image seen seen all all said said entries entries' room 0 (record { calls = calls; event = Sync }) [] [] (record { disk = settled (latest_of image.items all.items said.items entries.items).disk.seen; said = (latest_of image.items all.items said.items entries.items).said })
Grows-sync {image} {seen} {all} {said} {entries} {entries'} log entries_is left capacity = record {
  log = log;
  all_is = sym (append-nil all.items);
  said_is = sym (append-nil said.items);
  entries_is = entries_is;
  write = tt;
  say = tt;
  moment_is = refl;
  seen_is = log.is_seen;
  said_now = log.is_said;
  bytes_are = omega arith;
  moments_left = left;
  bytes_left = omega arith;
  entries_room = omega (arith, capacity);
  all_room = omega arith;
  said_room = omega arith;
  seen_room = omega arith;
  seen_grows = omega arith;
}

pub Grows-say : {image seen all said said' : Vec ℕ Global} {entries entries' : Vec Entry Global} {room calls : ℕ} (piece : List ℕ) (end : ℕ) → end ≡ vec_len said' → IsLog image seen all said entries room → said'.items ≡ said.items ++ piece → entries'.items ≡ entries.items ++ (record { calls = calls; event = Say end }) ∷ []
    → 0 < room - length entries.items → length piece ≤ room - (length all.items + length said.items) → vec_capacity entries' ≡ vec_capacity entries → vec_capacity said ≤ vec_capacity said'
    → Grows image seen seen all all said said' entries entries' room (length piece) (record { calls = calls; event = Say end }) [] piece (record { disk = (latest_of image.items all.items said.items entries.items).disk; said = (latest_of image.items all.items said.items entries.items).said ++ piece })
Grows-say {image} {seen} {all} {said} {said'} {entries} {entries'} piece end end_is log said_is entries_is left bytes capacity said_room =
    let at_end : end ≡ length said'.items = omega (arith, end_is, said'.ok.0) in
    let spoken : (latest_of image.items all.items said.items entries.items).said ++ piece ≡ said'.items = ap (λ (l : List ℕ). l ++ piece) log.is_said ∙ sym said_is in
    let all_of_it : take end (said.items ++ piece) ≡ (latest_of image.items all.items said.items entries.items).said ++ piece =
    take_all end (said.items ++ piece) (omega (arith, at_end, ap length said_is)) ∙ ap (λ (l : List ℕ). l ++ piece) (sym log.is_said) in record {
      log = log;
      all_is = sym (append-nil all.items);
      said_is = said_is;
      entries_is = entries_is;
      write = tt;
      say = omega (arith, at_end, ap length said_is);
      moment_is = ap (λ (l : List ℕ). let m : Moment = record { disk = (latest_of image.items all.items said.items entries.items).disk; said = l } in m) all_of_it;
      seen_is = log.is_seen;
      said_now = spoken;
      bytes_are = omega arith;
      moments_left = left;
      bytes_left = bytes;
      entries_room = omega (arith, capacity);
      all_room = omega arith;
      said_room = said_room;
      seen_room = omega arith;
      seen_grows = omega arith;
    }

pub Grows-write : {image seen seen' all all' said : Vec ℕ Global} {entries entries' : Vec Entry Global} {room calls : ℕ} (at from : ℕ) (bytes : List ℕ) (left : Effect) → from ≡ vec_len all → IsLog image seen all said entries room → all'.items ≡ all.items ++ bytes
    → entries'.items ≡ entries.items ++ (record { calls = calls; event = Write (record { at = at; from = from; count = length bytes; left = left }) }) ∷ []
    → seen'.items ≡ left_by left at bytes seen.items → at ≤ length seen.items
    → 0 < room - length entries.items → length bytes ≤ room - (length all.items + length said.items) → vec_capacity entries' ≡ vec_capacity entries → vec_capacity all ≤ vec_capacity all' → vec_capacity seen ≤ vec_capacity seen'
    → Grows image seen seen' all all' said said entries entries' room (length bytes) (record { calls = calls; event = Write (record { at = at; from = from; count = length bytes; left = left }) }) bytes [] (record { disk = written left at bytes (latest_of image.items all.items said.items entries.items).disk; said = (latest_of image.items all.items said.items entries.items).said })
Grows-write {image} {seen} {seen'} {all} {all'} {said} {entries} {entries'} at from bytes left from_len log all_is entries_is seen_is within moments_left bytes_left capacity all_room seen_room =
    let from_is : from ≡ length all.items = omega (arith, from_len, all.ok.0) in
    let piece : take (length bytes) (drop from (all.items ++ bytes)) ≡ bytes =
    ap (λ (l : List ℕ). take (length bytes) l) (drop_at all.items bytes from (sym from_is)) ∙ take_all (length bytes) bytes (omega arith) in record {
      log = log;
      all_is = all_is;
      said_is = sym (append-nil said.items);
      entries_is = entries_is;
      write = (omega (arith, from_is, length-append all.items bytes), omega (arith, ap length log.is_seen));
      say = tt;
      moment_is = ap (λ (l : List ℕ). let m : Moment = record { disk = written left at l (latest_of image.items all.items said.items entries.items).disk; said = (latest_of image.items all.items said.items entries.items).said } in m) piece;
      seen_is = ap (λ (l : List ℕ). left_by left at bytes l) log.is_seen ∙ sym seen_is;
      said_now = log.is_said;
      bytes_are = omega arith;
      moments_left = moments_left;
      bytes_left = bytes_left;
      entries_room = omega (arith, capacity);
      all_room = all_room;
      said_room = omega arith;
      seen_room = seen_room;
      seen_grows = omega (arith, ap length seen_is, left_by-longer left at bytes seen.items within);
    }
