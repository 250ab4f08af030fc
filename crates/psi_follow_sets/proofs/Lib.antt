-- The lemmas of this crate.
mod HalvingLemmas
mod FollowingLemmas
mod HaltsLemmas
mod RoomLemmas
mod SetsLemmas
mod BoxesLemmas
mod MeetingLemmas
