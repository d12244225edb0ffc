mod OpeningLemmas
mod FillingLemmas
mod ObjectLemmas
mod FileLemmas
mod RoomLemmas
mod AtOnceLemmas
