-- The promises of the shelf, each a law whose type is its statement in specs/ShelfPromises.antt.
use mathlib.Core.Path.{◌∙◌}
use Rattle.checked.specs.Checked.{checked_of}
use Rattle.checked.proofs.Sound.{accepted_read}
use Rattle.claims.specs.Lists.{table_from}
use Rattle.claims.specs.ShelfPromises.{EightLists, NoNeighbour, OwnSpanDecides, OwnCallsDecide, OtherSpansStay, RowStays, ClearingSets, RestStays, RestStaysCleared, WrongRowRefused, LastKeptFetched, FetchedAsChecked, SameJobFetched, NeverSix, LostRefused, FewHeld, FourHeld, FetchedAccepted, RefusedStays}
use Rattle.claims.proofs.EightLists.{lists_of}
use Rattle.claims.proofs.NoNeighbour.{alone, alone_call, own_decide, others_stay, row_of_lem, cleared_of}
use Rattle.claims.proofs.Rests.{rest_of_lem, rest_cleared}
use Rattle.claims.proofs.AsChecked.{fetched_by_counts}
use Rattle.claims.proofs.LastKept.{last_of, same_given, lost_of, few_of, four_of}
use Rattle.claims.proofs.Fetched.{fetched_of}
use Rattle.claims.proofs.NeverSix.{never_six_of}
use Rattle.claims.proofs.Refusals.{refused_of, wrong_refused}

pub eight_lists : EightLists
eight_lists = lists_of

pub no_neighbour : NoNeighbour
no_neighbour = alone

pub own_span_decides : OwnSpanDecides
own_span_decides = alone_call

pub own_calls_decide : OwnCallsDecide
own_calls_decide = own_decide

pub other_spans_stay : OtherSpansStay
other_spans_stay = others_stay

pub row_stays : RowStays
row_stays = row_of_lem

pub clearing_sets : ClearingSets
clearing_sets = cleared_of

pub rest_stays : RestStays
rest_stays = rest_of_lem

pub rest_stays_cleared : RestStaysCleared
rest_stays_cleared = rest_cleared

pub wrong_row_refused : WrongRowRefused
wrong_row_refused = wrong_refused

pub last_kept_fetched : LastKeptFetched
last_kept_fetched = last_of

pub fetched_as_checked : FetchedAsChecked
fetched_as_checked counts shelf from calls job old proposal room reads k =
    last_of counts shelf from calls job room reads (table_from (checked_of old proposal)) k.last k.still ∙ fetched_by_counts old proposal k.yes job reads room

pub same_job_fetched : SameJobFetched
same_job_fetched counts shelf from calls job proposal room k r =
    last_of counts shelf from calls job room (accepted_read job proposal k.yes).job_done (table_from (checked_of job proposal)) k.last k.still
    ∙ same_given job proposal k.yes room r

pub never_six : NeverSix
never_six = never_six_of

pub lost_refused : LostRefused
lost_refused = lost_of

pub few_held : FewHeld
few_held = few_of

pub four_held : FourHeld
four_held = four_of

pub fetched_accepted : FetchedAccepted
fetched_accepted = fetched_of

pub refused_stays : RefusedStays
refused_stays = refused_of
