mod Gathering
mod Arms
mod Bounding
